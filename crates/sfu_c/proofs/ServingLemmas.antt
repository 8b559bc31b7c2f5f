-- What is answered for an event.
use Rattle.std.proofs.Common.{◌≡◌, ◌∙◌, ℕ, List, [], ◌∷◌, inl, inr, refl, sym, ap, subst, arith, Option, None, Result, Ok, Err}
use Rattle.std.specs.Prelude.{OnOk, IfErr}
use Rattle.desk_calls.specs.DeskCalls.{source_of}
use Rattle.datagram.specs.Reads.{asks_beyond}
use Rattle.events.specs.declared.event.Event.{Event}
use Rattle.events.specs.declared.event.Event.TheVariants.{Hear}
use Rattle.one_thread.specs.Driving.{IsIdle}
use Rattle.conference.specs.declared.fault.EventFault.{EventFault}
use Rattle.conference.specs.declared.fault.EventFault.TheVariants.{Busy, NoMemory, Unsettled}
use Rattle.conference.specs.Conference.{ConferenceState, HearsLimited, LeavesEvents, LeavesLimited, Serves}
use Rattle.conference.specs.Limited.{IsHeardFor}
use Rattle.conference.proofs.ServedLemmas.{serves_on}
use Rattle.sfu_c.specs.Serving.{AnswersEvents, AnswersHearing, event_answer}
use Rattle.sfu_c.specs.declared.faults.TheConstants.{DONE, UNSETTLED}

answers_as : (outside : List Event) (old new : ConferenceState) (r : Result (Unit {0}) EventFault)
    → OnOk r (Serves outside old new) → OnOk r (IsIdle new.world) → (¬ IsIdle old.world → r ≡ Err Busy)
    → IfErr r (LeavesEvents outside old new) → AnswersEvents outside (event_answer r) old new
answers_as outside old new (Ok done) serves idle busy err = record {
  numbered = inl refl;
  done = λ _. (serves, idle);
  busy = (λ e. absurd (omega (arith, e)), λ waits. ap event_answer (busy waits));
  undone = λ e. elim e [ inl e ↦ absurd (omega (arith, e)) | inr e ↦ absurd (omega (arith, e)) ];
  unsettled = λ e. absurd (omega (arith, e));
  served = λ _. serves_on outside old new serves;
}
answers_as outside old new (Err Busy) serves idle busy err = record {
  numbered = inr (inl refl);
  done = λ e. absurd (omega (arith, e));
  busy = (λ _. err.0, λ _. refl);
  undone = λ _. err.1;
  unsettled = λ e. absurd (omega (arith, e));
  served = λ e. elim e [ inl e ↦ absurd (omega (arith, e)) | inr e ↦ absurd (omega (arith, e)) ];
}
answers_as outside old new (Err NoMemory) serves idle busy err = record {
  numbered = inr (inr (inl refl));
  done = λ e. absurd (omega (arith, e));
  busy = (λ e. absurd (omega (arith, e)), λ waits. ap event_answer (busy waits));
  undone = λ _. err;
  unsettled = λ e. absurd (omega (arith, e));
  served = λ e. elim e [ inl e ↦ absurd (omega (arith, e)) | inr e ↦ absurd (omega (arith, e)) ];
}
answers_as outside old new (Err Unsettled) serves idle busy err = record {
  numbered = inr (inr (inr refl));
  done = λ e. absurd (omega (arith, e));
  busy = (λ e. absurd (omega (arith, e)), λ waits. ap event_answer (busy waits));
  undone = λ e. elim e [ inl e ↦ absurd (omega (arith, e)) | inr e ↦ absurd (omega (arith, e)) ];
  unsettled = λ _. err;
  served = λ _. serves_on outside old new err;
}

pub answers_events : (outside : List Event) (old new : ConferenceState) (r : Result (Unit {0}) EventFault) (fault : ℕ) → fault ≡ event_answer r
    → OnOk r (Serves outside old new) → OnOk r (IsIdle new.world) → (¬ IsIdle old.world → r ≡ Err Busy)
    → IfErr r (LeavesEvents outside old new) → AnswersEvents outside fault old new
answers_events outside old new r fault is serves idle busy err =
    subst (λ (n : ℕ). AnswersEvents outside n old new) (sym is) (answers_as outside old new r serves idle busy err)

-- ---- a datagram

-- with no limit nothing is passed over
none_passed : (own : ℕ) (bytes heard : List ℕ) (most : Option ℕ) (beyond : ℕ) → IsHeardFor most own bytes heard beyond → most ≡ None
    → heard ≡ bytes
none_passed own bytes heard most beyond h none = h.whole (h.passed ∙ ap (λ (m : Option ℕ). asks_beyond m h.asks) none)

heard_answer : (moment endpoint : ℕ) (bytes : List ℕ) (fault : ℕ) (old new : ConferenceState) (h : HearsLimited moment endpoint bytes old new)
    → AnswersEvents (Hear moment endpoint h.heard ∷ []) fault old new → AnswersHearing moment endpoint bytes fault old new
heard_answer moment endpoint bytes fault old new h answers = record {
  heard = h.heard;
  answers = answers;
  limited = λ _. (h.beyond, h.is_heard, h.limit);
  whole = none_passed (source_of old.world.setup.table endpoint).0 bytes h.heard old.limit.most h.beyond h.is_heard;
}

hearing_as : (moment endpoint : ℕ) (bytes : List ℕ) (old new : ConferenceState) (r : Result (Unit {0}) EventFault)
    → OnOk r (HearsLimited moment endpoint bytes old new) → OnOk r (IsIdle new.world) → (¬ IsIdle old.world → r ≡ Err Busy)
    → IfErr r (LeavesLimited moment endpoint bytes old new) → AnswersHearing moment endpoint bytes (event_answer r) old new
hearing_as moment endpoint bytes old new (Ok done) h idle busy err =
    let heard : HearsLimited moment endpoint bytes old new = h in
    heard_answer moment endpoint bytes DONE old new heard
    (answers_as (Hear moment endpoint heard.heard ∷ []) old new (Ok done) heard.serves idle busy err)
hearing_as moment endpoint bytes old new (Err Busy) h idle busy err = record {
  heard = bytes;
  answers = answers_as (Hear moment endpoint bytes ∷ []) old new (Err Busy) h idle busy err;
  limited = λ e. elim e [ inl e ↦ absurd (omega (arith, e)) | inr e ↦ absurd (omega (arith, e)) ];
  whole = λ _. refl;
}
hearing_as moment endpoint bytes old new (Err NoMemory) h idle busy err = record {
  heard = bytes;
  answers = answers_as (Hear moment endpoint bytes ∷ []) old new (Err NoMemory) h idle busy err;
  limited = λ e. elim e [ inl e ↦ absurd (omega (arith, e)) | inr e ↦ absurd (omega (arith, e)) ];
  whole = λ _. refl;
}
hearing_as moment endpoint bytes old new (Err Unsettled) h idle busy err =
    let heard : HearsLimited moment endpoint bytes old new = err in
    heard_answer moment endpoint bytes UNSETTLED old new heard
    (answers_as (Hear moment endpoint heard.heard ∷ []) old new (Err Unsettled) h idle busy heard.serves)

pub answers_hearing : (moment endpoint : ℕ) (bytes : List ℕ) (old new : ConferenceState) (r : Result (Unit {0}) EventFault) (fault : ℕ)
    → fault ≡ event_answer r → OnOk r (HearsLimited moment endpoint bytes old new) → OnOk r (IsIdle new.world)
    → (¬ IsIdle old.world → r ≡ Err Busy) → IfErr r (LeavesLimited moment endpoint bytes old new)
    → AnswersHearing moment endpoint bytes fault old new
answers_hearing moment endpoint bytes old new r fault is h idle busy err =
    subst (λ (n : ℕ). AnswersHearing moment endpoint bytes n old new) (sym is) (hearing_as moment endpoint bytes old new r h idle busy err)
