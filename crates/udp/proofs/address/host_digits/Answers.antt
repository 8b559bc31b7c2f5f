use Rattle.std.proofs.Common.{◌≡◌, ◌∙◌, ap, subst, sym}
use Rattle.std.specs.Prelude.{IfOk}
use Rattle.std.specs.String.{string_bytes}
use Rattle.hex.specs.Hex.{encode_upper}
use Rattle.udp.specs.Address.{host_octets}
use Rattle.udp.proofs.address.host_digits.Goals as goal

pub returns-in-V4 : goal.returns-in-V4
returns-in-V4 c =
    subst (λ octets. IfOk c.encode_upper.result (λ text. string_bytes text ≡ encode_upper octets))
    (c.turned.ensures ∙ ap host_octets (sym c.in-V4.is)) c.encode_upper.ensures

pub returns-in-V6 : goal.returns-in-V6
returns-in-V6 c =
    subst (λ octets. IfOk c.encode_upper-in-V6.result (λ text. string_bytes text ≡ encode_upper octets))
    (c.four_turned.ensures ∙ ap host_octets (sym c.in-V6.is)) c.encode_upper-in-V6.ensures
