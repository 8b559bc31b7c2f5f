use Rattle.std.proofs.Common.{◌≡◌, take, map}
use Rattle.std.specs.List.{AllWithin}
use Rattle.tmmbr_c.specs.Numbers.{IsRequestInRange, asked_request}
use Rattle.tmmbr_c.proofs.reading.read_requests.Given as goal

abbrev pub invariant-loop-place : goal.invariant-loop-place
invariant-loop-place l = (l.requests.items ≡ map asked_request (take l.place l.asked)) × AllWithin IsRequestInRange l.asked 0 l.place
