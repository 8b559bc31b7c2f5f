-- Whether what is kept is what came, told by reading that once more.
use Rattle.std.proofs.Common.{◌≡◌, ◌==◌, ◌∙◌, ◌↔◌, ℕ, IsTrue, Bool, true, false, List, [], Option, None, Some, refl, sym, ap, subst, arith}
use Rattle.std.specs.Prelude.{◌&&◌, is_some, unwrap_or}
use Rattle.std.specs.Bool.{Decides}
use Rattle.std.specs.Option.{option_eq}
use Rattle.std.proofs.lemmas.Bool.{false≢true}
use Rattle.std.proofs.lemmas.Bool.Decides.{Decides-eqb, Decides-and, Decides-like}
use Rattle.datagram.proofs.ReadAgainLemmas.{read_one}
use Rattle.datagram.proofs.ReaderLemmas.{read_whole}
use Rattle.datagram.specs.Reads.{IsReadUpTo, IsSaidIn, ReadsBy, WasRead, was_read}
use Rattle.datagram.specs.Saying.{Says, media}
use Rattle.datagram.specs.Spelling.{IsAsHeard}
use Rattle.datagram.specs.declared.reading.Ask.{Ask}
use Rattle.datagram.specs.declared.reading.Ask.TheVariants.{Rate, Resend, Picture}
use Rattle.datagram.specs.declared.reading.Control.{Control}
use Rattle.datagram.specs.declared.reading.Media.{Media as Packet}
use Rattle.datagram.specs.declared.reading.Reading.{Reading}
use Rattle.datagram.specs.declared.reading.What.{What}
use Rattle.datagram.specs.declared.reading.What.TheVariants.{Media, Goodbye, Control as control, Refused}
use Rattle.datagram.specs.contracts.reading.AskPartialEq.TheImpl.{eq-value as ask_eq}
use Rattle.datagram.specs.contracts.reading.ControlPartialEq.TheImpl.{eq-value as control_eq}
use Rattle.events.specs.declared.event.Event.TheVariants.{Hear}
use Rattle.events.specs.declared.output.Refusal.{Refusal}
use Rattle.recording.specs.Lines.{after_came, event_lines}
use Rattle.recording.specs.Tapes.{TapeState}
use Rattle.udp.specs.Kept.{bytes_of}
use Rattle.udp.specs.Scribe.{IsKeptAsHeard, IsWhatCame, PutsOrEnds, TakesDown, spelled_lines}
use Rattle.udp.specs.declared.kept.Kept.{Kept}

-- ---- `==` of what is asked for

abbrev kind_of : Ask → ℕ
kind_of (Rate source word) = 0
kind_of (Resend source nack) = 1
kind_of (Picture source) = 2

abbrev source_of : Ask → ℕ
source_of (Rate source word) = source.0
source_of (Resend source nack) = source.0
source_of (Picture source) = source.0

-- a word, or the first lost number; and the bits of the others
abbrev first_of : Ask → ℕ
first_of (Rate source word) = word
first_of (Resend source nack) = nack.pid
first_of (Picture source) = 0

abbrev bits_of : Ask → ℕ
bits_of (Rate source word) = 0
bits_of (Resend source nack) = nack.blp
bits_of (Picture source) = 0

unlike : (a b : Ask) → (kind_of a ≡ kind_of b → ⊥) → Decides false (a ≡ b)
unlike a b other = (λ e. absurd (false≢true e), λ same. absurd (other (ap kind_of same)))

pub Decides-ask_eq : (a b : Ask) → Decides (ask_eq.it a b) (a ≡ b)
Decides-ask_eq (Rate s w) (Rate t v) =
    Decides-like (ask_eq.it (Rate s w) (Rate t v))
    (λ same i. Rate (record { 0 = same.0 i }) (same.1 i))
    (λ same. (ap source_of same, ap first_of same))
    (Decides-and _ _ (Decides-eqb s.0 t.0) (Decides-eqb w v))
Decides-ask_eq (Rate s w) (Resend t m) = unlike (Rate s w) (Resend t m) (λ e. omega arith)
Decides-ask_eq (Rate s w) (Picture t) = unlike (Rate s w) (Picture t) (λ e. omega arith)
Decides-ask_eq (Resend s n) (Rate t v) = unlike (Resend s n) (Rate t v) (λ e. omega arith)
Decides-ask_eq (Resend s n) (Resend t m) =
    Decides-like (ask_eq.it (Resend s n) (Resend t m))
    (λ same i. Resend (record { 0 = same.0 i }) (record { pid = same.1.0 i; blp = same.1.1 i }))
    (λ same. (ap source_of same, (ap first_of same, ap bits_of same)))
    (Decides-and _ _ (Decides-eqb s.0 t.0) (Decides-and _ _ (Decides-eqb n.pid m.pid) (Decides-eqb n.blp m.blp)))
Decides-ask_eq (Resend s n) (Picture t) = unlike (Resend s n) (Picture t) (λ e. omega arith)
Decides-ask_eq (Picture s) (Rate t v) = unlike (Picture s) (Rate t v) (λ e. omega arith)
Decides-ask_eq (Picture s) (Resend t m) = unlike (Picture s) (Resend t m) (λ e. omega arith)
Decides-ask_eq (Picture s) (Picture t) =
    Decides-like (ask_eq.it (Picture s) (Picture t)) (λ same i. Picture (record { 0 = same i })) (λ same. ap source_of same) (Decides-eqb s.0 t.0)

-- ---- `==` of what RTCP says

Decides-option_eq : {X : Type 0} (E : X → X → Bool) → ((x y : X) → Decides (E x y) (x ≡ y)) → (a b : Option X) → Decides (option_eq E a b) (a ≡ b)
Decides-option_eq E each None None = (λ _. refl, λ _. refl)
Decides-option_eq E each None (Some y) = (λ e. absurd (false≢true e), λ same. ap is_some same)
Decides-option_eq E each (Some x) None = (λ e. absurd (false≢true e), λ same. sym (ap is_some same))
Decides-option_eq E each (Some x) (Some y) =
    Decides-like (E x y) (λ same. ap Some same) (λ same. ap (λ o. unwrap_or o x) same) (each x y)

Decides-pair_eq : (a b : ℕ × ℕ) → Decides ((a.0 == b.0) && (a.1 == b.1)) (a ≡ b)
Decides-pair_eq a b =
    Decides-like ((a.0 == b.0) && (a.1 == b.1)) (λ same i. (same.0 i, same.1 i)) (λ same. (ap (λ (p : ℕ × ℕ). p.0) same, ap (λ (p : ℕ × ℕ). p.1) same))
    (Decides-and _ _ (Decides-eqb a.0 b.0) (Decides-eqb a.1 b.1))

pub Decides-control_eq : (a b : Control) → Decides (control_eq.it a b) (a ≡ b)
Decides-control_eq a b =
    Decides-like (control_eq.it a b)
    (λ same i. record { speaker = record { 0 = same.0 i }; report = same.1.0 i; tmmbns = same.1.1 i })
    (λ same. (ap (λ (c : Control). c.speaker.0) same, (ap (λ (c : Control). c.report) same, ap (λ (c : Control). c.tmmbns) same)))
    (Decides-and _ _ (Decides-eqb a.speaker.0 b.speaker.0)
    (Decides-and _ _ (Decides-option_eq _ Decides-pair_eq a.report b.report) (Decides-eqb a.tmmbns b.tmmbns)))

-- ---- what was read once more

pub control_told : (c d : Control) (b : Bool) → (IsTrue b ↔ (c ≡ d)) → (IsTrue b ↔ (control c ≡ control d))
control_told c d b iff = (λ is. ap control (iff.0 is), λ same. iff.1 (ap (λ w. control_in w c) same))
  where
    control_in : What → Control → Control
    control_in (Media packet) other = other
    control_in Goodbye other = other
    control_in (control said) other = said
    control_in (Refused refusal) other = other

-- if it says another thing
pub says_another : (heard kept : Reading) (b : Bool) → (IsTrue b ↔ (heard.what ≡ kept.what)) → b ≡ false
    → (IsTrue false ↔ (was_read heard ≡ was_read kept))
says_another heard kept b iff is =
    (λ e. absurd (false≢true e), λ same. sym is ∙ iff.1 (ap (λ (r : WasRead). r.what) same))

-- if it says that: by what is asked for
pub asks_tell : (heard kept : Reading) (b c : Bool) → (IsTrue b ↔ (heard.what ≡ kept.what)) → b ≡ true
    → (IsTrue c ↔ (heard.asks.items ≡ kept.asks.items)) → (IsTrue c ↔ (was_read heard ≡ was_read kept))
asks_tell heard kept b c whats is asks = (
  λ also i. record { what = whats.0 is i; asks = asks.0 also i },
  λ same. asks.1 (ap (λ (r : WasRead). r.asks) same),
)

-- bytes say one thing
pub told_by_reading : (own : ℕ) (bytes : List ℕ) (heard kept : Reading) (b : Bool) → IsReadUpTo own bytes None heard
    → (IsTrue b ↔ (was_read heard ≡ was_read kept)) → (IsTrue b ↔ IsSaidIn own bytes (was_read kept))
told_by_reading own bytes heard kept b reads iff =
    let said = read_whole own bytes heard reads in
    (λ is. subst (IsSaidIn own bytes) (iff.0 is) said, λ also. iff.1 (read_one own bytes (was_read kept) (was_read heard) also said))

-- ---- what is always what came

said_as_heard : (own : ℕ) (what : What) (asks : List Ask) (came : List ℕ) (packet : Packet) → what ≡ Media packet
    → IsAsHeard own what asks came → ReadsBy (Says own came) asks what
said_as_heard own what asks came packet is =
    subst (λ w. IsAsHeard own w asks came → ReadsBy (Says own came) asks w) (sym is)
    (λ h. (media packet.ssrc.0 packet.parts.sequence_number packet.timestamp packet.parts.octets, h.1, refl, h.0))

refused_as_heard : (own : ℕ) (what : What) (asks : List Ask) (came : List ℕ) (refusal : Refusal) → what ≡ Refused refusal
    → IsAsHeard own what asks came → ReadsBy (Says own came) asks what
refused_as_heard own what asks came refusal is =
    subst (λ w. IsAsHeard own w asks came → ReadsBy (Says own came) asks w) (sym is) (λ h. (h.1, h.0))

pub media_came : (k : Kept) (packet : Packet) → k.reading.what ≡ Media packet → IsKeptAsHeard k → (IsTrue true ↔ IsWhatCame k)
media_came k packet is heard =
    let said = said_as_heard k.sent.own.0 k.reading.what k.reading.asks.items (bytes_of k) packet is heard in
    (λ _. said, λ _. refl)

pub refused_came : (k : Kept) (refusal : Refusal) → k.reading.what ≡ Refused refusal → IsKeptAsHeard k → (IsTrue true ↔ IsWhatCame k)
refused_came k refusal is heard =
    let said = refused_as_heard k.sent.own.0 k.reading.what k.reading.asks.items (bytes_of k) refusal is heard in
    (λ _. said, λ _. refl)

-- ---- what a record has

not_so : {P : Type 0} (b : Bool) → (IsTrue b ↔ P) → (P → ⊥) → b ≡ false
not_so true iff other = absurd (other (iff.0 refl))
not_so false iff other = refl

pub takes_down : (moment : ℕ) (k : Kept) (before : Option ℕ) (old new : TapeState) (b : Bool) → k.is_made ≡ false → (IsTrue b ↔ IsWhatCame k)
    → (b ≡ true → PutsOrEnds old (event_lines (Hear moment k.sent.endpoint (bytes_of k))) new)
    → (b ≡ false → PutsOrEnds old (after_came (bytes_of k) (spelled_lines moment k)) new) → TakesDown moment k before old new
takes_down moment k before old new b heard iff came changed = record {
  made = λ made. absurd (false≢true (sym heard ∙ made));
  came = λ _ same. came (iff.1 same);
  changed = λ _ other. changed (not_so b iff other);
}
