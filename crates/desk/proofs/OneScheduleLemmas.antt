-- The schedule of PLIs is the only one: the base and the calls decide it.
use Rattle.std.proofs.Common.{◌≡◌, ℕ, zero, suc, Bool, cond, List, [], ◌∷◌, refl, sym, ap, ◌∙◌, arith, Option, Some}
use Rattle.std.specs.Prelude.{not, ◌&&◌, ◌||◌, ◌↔◌}
use Rattle.std.specs.Cmp.{both_ways}
use Rattle.desk.specs.declared.call.Call.{Call}
use Rattle.desk.specs.declared.call.Entry.{Entry}
use Rattle.desk.specs.declared.base.Base.{Base}
use Rattle.desk.specs.Call.{moment_after, can_send, wishes, went_up}
use Rattle.desk.specs.Trace.{base_with, is_due, goes_up}
use Rattle.desk.specs.Schedule.{WentUpAt, IsDueAt, IsPliSchedule, calls_in}
use Rattle.desk.proofs.PlaceLemmas.{not_in_nil, at_head, head_is, at_tail, from_tail}
use Rattle.desk.proofs.ScheduleLemmas.{Up, due_first, goes_first, due_on, due_back}

-- ---- what a schedule says of its first entry and of the others

first_is : (gap : ℕ) (base : Base) (e : Entry) (entries : List Entry) → IsPliSchedule gap base (e ∷ entries) → went_up e ≡ goes_up gap base e.call
first_is gap base e entries schedule =
    let here : WentUpAt (e ∷ entries) 0 ↔ IsDueAt gap base (e ∷ entries) 0 = schedule 0 (omega arith) in
    both_ways (went_up e) (goes_up gap base e.call)
    (λ up. goes_first gap base e entries (here.0 (at_head Up e entries up)))
    (λ goes. head_is Up e entries (here.1 (due_first gap base e entries goes)))

schedule-rest : (gap request_ms : ℕ) (base : Base) (e : Entry) (entries : List Entry) → IsPliSchedule gap base (e ∷ entries)
    → IsPliSchedule gap (base_with request_ms base e) entries
schedule-rest gap request_ms base e entries schedule place below =
    let next : WentUpAt (e ∷ entries) (suc place) ↔ IsDueAt gap base (e ∷ entries) (suc place) = schedule (suc place) (omega arith) in (
      λ up. due_on gap request_ms base e entries place (next.0 (at_tail Up e entries place up)),
      λ due. from_tail Up e entries place (next.1 (due_back gap request_ms base e entries place due)),
    )

-- ---- what the schedule reads of a base

-- whether a picture is wanted, the greatest moment, and the one of the last PLI
record AgreeOnPlis (a b : Base) : Type 0 where
  pub wanted : a.wanted ≡ b.wanted
  pub greatest : a.greatest ≡ b.greatest
  pub last_up : a.last_up ≡ b.last_up

agrees_with_itself : (base : Base) → AgreeOnPlis base base
agrees_with_itself base = record { wanted = refl; greatest = refl; last_up = refl }

goes-agree : (gap : ℕ) (a b : Base) (c d : Call) → AgreeOnPlis a b → c ≡ d → goes_up gap a c ≡ goes_up gap b d
goes-agree gap a b c d agree same =
    ap (λ (wanted : Bool). can_send c && (wishes c || wanted) && is_due gap a.last_up (moment_after a.greatest c)) agree.wanted
    ∙ ap (λ (last : Option ℕ). can_send c && (wishes c || b.wanted) && is_due gap last (moment_after a.greatest c)) agree.last_up
    ∙ ap (λ (greatest : ℕ). can_send c && (wishes c || b.wanted) && is_due gap b.last_up (moment_after greatest c)) agree.greatest
    ∙ ap (λ (call : Call). goes_up gap b call) same

agree-with : (request_ms : ℕ) (a b : Base) (e f : Entry) → AgreeOnPlis a b → e.call ≡ f.call → went_up e ≡ went_up f
    → AgreeOnPlis (base_with request_ms a e) (base_with request_ms b f)
agree-with request_ms a b e f agree same up =
    let now : moment_after a.greatest e.call ≡ moment_after b.greatest f.call =
    ap (λ (greatest : ℕ). moment_after greatest e.call) agree.greatest ∙ ap (λ (call : Call). moment_after b.greatest call) same in
    record {
      wanted = ap (λ (u : Bool). not u && (wishes e.call || a.wanted)) up
          ∙ ap (λ (call : Call). not (went_up f) && (wishes call || a.wanted)) same
          ∙ ap (λ (wanted : Bool). not (went_up f) && (wishes f.call || wanted)) agree.wanted;
      greatest = now;
      last_up = ap (λ (u : Bool). cond u (Some (moment_after a.greatest e.call)) a.last_up) up
          ∙ ap (λ (moment : ℕ). cond (went_up f) (Some moment) a.last_up) now
          ∙ ap (λ (last : Option ℕ). cond (went_up f) (Some (moment_after b.greatest f.call)) last) agree.last_up;
    }

-- ---- two lists of the same calls

same_head : (c d : Call) (cs ds : List Call) → c ∷ cs ≡ d ∷ ds → c ≡ d
same_head c d cs ds same = cc

same_tail : (c d : Call) (cs ds : List Call) → c ∷ cs ≡ d ∷ ds → cs ≡ ds
same_tail c d cs ds same = cc

goes_up_too : (gap : ℕ) (a b : Base) (entries others : List Entry) → AgreeOnPlis a b → calls_in entries ≡ calls_in others
    → IsPliSchedule gap a entries → IsPliSchedule gap b others → (place : ℕ) → WentUpAt entries place → WentUpAt others place
goes_up_too gap a b [] others agree same first second place up = absurd (not_in_nil Up place up)
goes_up_too gap a b (e ∷ entries) [] agree same first second place up = absurd (cc)
goes_up_too gap a b (e ∷ entries) (f ∷ others) agree same first second zero up =
    let call : e.call ≡ f.call = same_head e.call f.call (calls_in entries) (calls_in others) same in
    at_head Up f others
    (first_is gap b f others second ∙ sym (goes-agree gap a b e.call f.call agree call)
    ∙ sym (first_is gap a e entries first) ∙ head_is Up e entries up)
goes_up_too gap a b (e ∷ entries) (f ∷ others) agree same first second (suc place) up =
    let call : e.call ≡ f.call = same_head e.call f.call (calls_in entries) (calls_in others) same in
    let both : went_up e ≡ went_up f =
    first_is gap a e entries first ∙ goes-agree gap a b e.call f.call agree call ∙ sym (first_is gap b f others second) in
    at_tail Up f others place
    (goes_up_too gap (base_with 0 a e) (base_with 0 b f) entries others (agree-with 0 a b e f agree call both)
    (same_tail e.call f.call (calls_in entries) (calls_in others) same)
    (schedule-rest gap 0 a e entries first)
    (schedule-rest gap 0 b f others second) place (from_tail Up e entries place up))

pub one_schedule : (gap : ℕ) (base : Base) (entries others : List Entry) (place : ℕ) → calls_in entries ≡ calls_in others
    → IsPliSchedule gap base entries → IsPliSchedule gap base others → WentUpAt entries place ↔ WentUpAt others place
one_schedule gap base entries others place same first second = (
  goes_up_too gap base base entries others (agrees_with_itself base) same first second place,
  goes_up_too gap base base others entries (agrees_with_itself base) (sym same) second first place,
)
