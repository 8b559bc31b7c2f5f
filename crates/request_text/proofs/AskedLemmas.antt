-- What packets and datagrams ask for.
use Rattle.std.proofs.Common.{◌≡◌, ℕ, ◌≢◌, List, [], ◌∷◌, ◌++◌, Result, Ok, Err, eqb, length, get_or, refl, sym, ap, ◌∙◌, arith, subst, ◌⊎◌, inl, inr}
use Rattle.std.proofs.lemmas.Bool.{cond-false, cond-true, eq-eqb, ne_eqb}
use Rattle.std.specs.Prelude.{All, map}
use Rattle.std.proofs.lemmas.List.Elements.{All-head, All-tail}
use Rattle.hex.specs.Hex.{decode_of}
use Rattle.rtcp_compound.specs.Content.{Content, sender_report, receiver_report, description, goodbye, feedback, other}
use Rattle.rate_cert.specs.declared.request.Request.{Request}
use Rattle.hex.specs.declared.error.FromHexError.{FromHexError}
use Rattle.hex.specs.declared.error.FromHexError.TheVariants.{InvalidHexCharacter, InvalidStringLength, OddLength, OutOfMemory}
use Rattle.request_text.specs.declared.fault.LineFault.{LineFault}
use Rattle.request_text.specs.declared.fault.LineFault.TheVariants.{Hex}
use Rattle.request_text.specs.Asked.{Change, AskTogether, Asks, AsksFor, IsReadable, changes_of, leaves}
use Rattle.request_text.specs.Lines.{Asked, Demands, LineLeaves, Spelled, after_changes, spelling_of, skipped, spelled_by}
use Rattle.request_text.specs.Outcome.{Leaves, LeavesDatagram, RefusesLine, undecoded_at}

-- a packet that can be read asks for something, or for nothing
asked_one : (media : ℕ) (c : Content) → IsReadable c → (changes : List Change) × Asks media c changes
asked_one media (sender_report sender ntp rtp packets octets blocks) readable = ([], refl)
asked_one media (receiver_report sender blocks) readable = ([], refl)
asked_one media (description count chunks) readable = ([], refl)
asked_one media (goodbye sources) readable = (map leaves sources, refl)
asked_one media (feedback fmt kind body) readable = (changes_of media readable.0, (readable.0, readable.1, refl))
asked_one media (other count kind body) readable = ([], refl)

pub asked_together : (media : ℕ) (cs : List Content) → All IsReadable cs → (changes : List Change) × AskTogether media cs changes
asked_together media [] readable = ([], refl)
asked_together media (c ∷ cs) readable =
    let one = asked_one media c (All-head IsReadable c cs readable) in
    let others = asked_together media cs (All-tail IsReadable c cs readable) in
    (one.0 ++ others.0, (one.0, others.0, one.1, others.1, refl))

-- what packets leave is what their datagram leaves
pub leaves_datagram : (media : ℕ) (bytes : List ℕ) (live : List Asked) (rows : List Request) (changes : List Change) → AsksFor media bytes changes
    → (r : Result (Unit {0}) LineFault) → Leaves (after_changes changes live) rows r → LeavesDatagram media bytes live rows r
leaves_datagram media bytes live rows changes asks (Ok done) left =
    (left.0, record { asked = Ok changes; says = asks; done = sym left.1 }, left.2)
leaves_datagram media bytes live rows changes asks (Err fault) says = record { asked = Ok changes; says = asks; done = sym says }

-- an empty line and one that begins with # are skipped
pub skipped_line : (line : List ℕ) → ((length line ≡ 0) ⊎ (get_or line 0 0 ≡ 35)) → spelled_by line ≡ skipped
skipped_line [] why = refl
skipped_line (b ∷ bs) (inl empty) = absurd (omega (arith, empty))
skipped_line (b ∷ bs) (inr mark) = cond-true (eqb b 35) skipped (spelling_of (decode_of (b ∷ bs))) (eq-eqb b 35 mark)

-- another line stands for what is decoded of it
decoded_line : (line : List ℕ) → length line ≢ 0 → get_or line 0 0 ≢ 35 → spelled_by line ≡ spelling_of (decode_of line)
decoded_line [] some unmarked = absurd (some refl)
decoded_line (b ∷ bs) some unmarked = cond-false (eqb b 35) skipped (spelling_of (decode_of (b ∷ bs))) (ne_eqb b 35 unmarked)

pub refuses_hex : (media number : ℕ) (line : List ℕ) (live : List Asked) (error : FromHexError) → length line ≢ 0 → get_or line 0 0 ≢ 35
    → ((error ≡ OutOfMemory) ⊎ (decode_of line ≡ Err error)) → RefusesLine media number line live (undecoded_at number error)
refuses_hex media number line live error some unmarked why =
    elim why [
      | inl memory ↦ subst (λ (e : FromHexError). RefusesLine media number line live (undecoded_at number e)) (sym memory) tt
      | inr is ↦
          here error (record {
            asked = Err Hex;
            says = subst (λ (s : Spelled). Demands media s (Err Hex)) (sym (decoded_line line some unmarked ∙ ap spelling_of is)) refl;
            done = refl;
          })
    ]
  where
    here : (e : FromHexError) → LineLeaves media line live (Err Hex) → RefusesLine media number line live (undecoded_at number e)
    here OutOfMemory left = tt
    here (InvalidHexCharacter c index) left = (refl, left)
    here OddLength left = (refl, left)
    here InvalidStringLength left = (refl, left)
