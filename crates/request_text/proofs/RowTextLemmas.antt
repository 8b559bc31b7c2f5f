-- What is printed of the row at a place.
use Rattle.std.proofs.Common.{◌≡◌, ◌<◌, ℕ, List, length, get_or, sym, ap, unwrap_or, option_map}
use Rattle.std.proofs.lemmas.Option.{slice_get-get_or}
use Rattle.tmmbr_tuple.specs.Tuple.{word_of}
use Rattle.rate_cert.specs.declared.request.Request.{Request}
use Rattle.request_text.specs.BoundText.{owner_at, word_at}

pub owner_at-row : (rows : List Request) (place : ℕ) (d : Request) → place < length rows → (get_or rows place d).owner.0 ≡ owner_at rows place
unfolding owner_at
owner_at-row rows place d below = sym (ap (λ o. unwrap_or (option_map (λ (r : Request). r.owner.0) o) 0) (slice_get-get_or rows place d below))

pub word_at-row : (rows : List Request) (place : ℕ) (d : Request) → place < length rows → word_of (get_or rows place d).tuple ≡ word_at rows place
unfolding word_at
word_at-row rows place d below = sym (ap (λ o. unwrap_or (option_map (λ (r : Request). word_of r.tuple) o) 0) (slice_get-get_or rows place d below))
