-- What entries come to, one by one.
use Rattle.std.proofs.Common.{◌≡◌, ℕ, suc, ◌+◌, ◌^◌, ◌≤◌, Bool, true, false, cond, List, [], ◌∷◌, ◌++◌, length, refl, sym, ap, subst, ◌∙◌, arith, Some, None, Option, inl, inr}
use Rattle.std.specs.Prelude.{not, ◌==◌, nat_le, ◌⊎◌, All}
use Rattle.std.proofs.lemmas.Bool.{cases_lt}
use Rattle.std.proofs.lemmas.List.{take_at, take-append-le, get_or_append_left, get_or_at, length_push}
use Rattle.std.proofs.lemmas.List.Sums.{fold_push, fold-append, sum_by-cons}
use Rattle.tmmbr_tuple.specs.declared.tuple.Tuple.{Tuple}
use Rattle.tmmbr_tuple.specs.Tuple.{word_of}
use Rattle.desk.specs.declared.call.Call.{Call}
use Rattle.desk.specs.declared.call.Call.TheVariants.{Stay, Time}
use Rattle.desk.specs.declared.call.Change.{Change}
use Rattle.desk.specs.declared.call.Change.TheVariants.{Arrive, Request as Ask, Depart}
use Rattle.desk.specs.declared.call.Answer.{Answer}
use Rattle.desk.specs.declared.call.Answer.TheVariants.{NotPresent, AlreadyPresent, Full}
use Rattle.desk.specs.declared.call.Entry.{Entry}
use Rattle.desk.specs.declared.presence.Present.{Present}
use Rattle.desk.specs.declared.presence.TheConstants.{PRESENT_LIMIT}
use Rattle.desk.specs.declared.base.Base.{Base}
use Rattle.desk.specs.Call.{HasStay, requested_word, word_in, is_done, moment_after}
use Rattle.desk.specs.Presence.{HasRisingOwners, HasStays, refusal_of, stay_in, unless_present_with}
use Rattle.desk.specs.Trace.{IsBase, base_with, base_after, words_of, present_behind, present_unless, present_with}
use Rattle.desk.specs.Answer.{IsAnswerOr, IsAnswerTo}
use Rattle.desk.specs.History.{IsLegalHistory, Follows}
use Rattle.desk.proofs.PresenceLemmas.{rising-by, stays-by, few-by}

-- ---- words

word_of-small : (t : Tuple) → word_of t ≤ 2 ^ 32
word_of-small t = omega (arith, t.exp_in_range, t.mantissa_in_range, t.overhead_in_range)

word_in-small : (change : Change) → word_in change ≤ 2 ^ 32
word_in-small Arrive = omega arith
word_in-small (Ask tuple) = word_of-small tuple
word_in-small Depart = omega arith

pub word-small : (call : Call) → requested_word call ≤ 2 ^ 32
word-small (Stay owner stay change) = word_in-small change
word-small (Time moment signal) = omega arith

-- ---- answers

-- a refusal isn't done
pub record IsRefusal (answer : Answer) : Type 0 where
  pub not_done : is_done answer ≡ false

unless : (b : Bool) (x r : Answer) → cond b None (Some x) ≡ Some r → x ≡ r
unless true x r e = absurd (cc)
unless false x r e = cc

either : (b b' : Bool) (x y r : Answer) → cond b (Some x) (cond b' (Some y) None) ≡ Some r → (x ≡ r) ⊎ (y ≡ r)
either true b' x y r e = inl (cc)
either false true x y r e = inr (cc)
either false false x y r e = absurd (cc)

refused_with-not_done : (present : List Present) (owner stay : ℕ) (answer : Answer) → unless_present_with present owner stay ≡ Some answer
    → is_done answer ≡ false
refused_with-not_done present owner stay answer e =
    ap is_done (sym (unless (stay_in present owner == stay) (NotPresent (stay_in present owner)) answer e))

pub refusal-not_done : (present : List Present) (call : Call) (answer : Answer) → refusal_of present call ≡ Some answer → is_done answer ≡ false
refusal-not_done present (Stay owner stay Arrive) answer e =
    elim (either (not (stay_in present owner.0 == 0)) (nat_le PRESENT_LIMIT (length present)) (AlreadyPresent (stay_in present owner.0)) Full answer e) [
      | inl is ↦ ap is_done (sym is)
      | inr is ↦ ap is_done (sym is)
    ]
refusal-not_done present (Stay owner stay (Ask tuple)) answer e = refused_with-not_done present owner.0 stay answer e
refusal-not_done present (Stay owner stay Depart) answer e = refused_with-not_done present owner.0 stay answer e
refusal-not_done present (Time moment signal) answer e = absurd (cc)

-- a call that was done wasn't refused
pub done_accepted : (gap request_ms : ℕ) (before : Base) (call : Call) (answer : Answer) → IsAnswerTo gap request_ms before call answer
    → is_done answer ≡ true → refusal_of before.present.items call ≡ None
done_accepted gap request_ms before call answer is done = step (refusal_of before.present.items call) refl is
  where
    step : (o : Option Answer) → refusal_of before.present.items call ≡ o → IsAnswerOr gap request_ms before call o answer
        → refusal_of before.present.items call ≡ None
    step None e h = e
    step (Some r) e h =
        let same : is_done answer ≡ is_done r = ap is_done h in
        let not_done : is_done r ≡ false = refusal-not_done before.present.items call r e in
        absurd (cc)

pub answer_follows : (gap request_ms : ℕ) (before : Base) (e : Entry) → HasStay e.call → IsAnswerTo gap request_ms before e.call e.answer → Follows before e
answer_follows gap request_ms before e from is = record { stay = from; accepted = done_accepted gap request_ms before e.call e.answer is }

-- who is present after an answered call
pub present-answered : (gap request_ms : ℕ) (before : Base) (e : Entry) → IsAnswerTo gap request_ms before e.call e.answer
    → (base_with request_ms before e).present.items ≡ present_with request_ms before e.call
present-answered gap request_ms before e is = step (refusal_of before.present.items e.call) refl is
  where
    step : (o : Option Answer) → refusal_of before.present.items e.call ≡ o → IsAnswerOr gap request_ms before e.call o e.answer
        → (base_with request_ms before e).present.items ≡ present_with request_ms before e.call
    step None none h =
        ap (λ b. cond b (present_behind request_ms before e.call) before.present.items) (ap is_done h.is)
        ∙ sym (ap (present_unless request_ms before e.call) none)
    step (Some r) some h =
        ap (λ b. cond b (present_behind request_ms before e.call) before.present.items)
        (ap is_done h ∙ refusal-not_done before.present.items e.call r some)
        ∙ sym (ap (present_unless request_ms before e.call) some)

-- ---- bases

-- what is present once the entry was taken in
module _ (P : List Present → Type 0) (request_ms : ℕ) (base : Base) (e : Entry) where
  present_behind-cases : P base.present.items → (is_done e.answer ≡ true → P (present_behind request_ms base e.call))
      → P (base_with request_ms base e).present.items
  present_behind-cases before behind = step (is_done e.answer) refl
    where
      step : (b : Bool) → is_done e.answer ≡ b → P (cond b (present_behind request_ms base e.call) base.present.items)
      step true done = behind done
      step false refused = before

pub IsBase-with : (request_ms : ℕ) (base : Base) (e : Entry) → IsBase base → Follows base e → IsBase (base_with request_ms base e)
IsBase-with request_ms base e is follows =
    let now = moment_after base.greatest e.call in
    record {
      rising = present_behind-cases HasRisingOwners request_ms base e is.rising
          (λ done. rising-by request_ms now base.present.items e.call is.rising);
      stays = present_behind-cases HasStays request_ms base e is.stays
          (λ done. stays-by request_ms now base.present.items e.call follows.stay is.stays);
      few = present_behind-cases (λ (ps : List Present). length ps ≤ PRESENT_LIMIT) request_ms base e is.few
          (λ done. few-by request_ms now base.present.items e.call is.rising is.stays follows.stay (follows.accepted done) is.few);
      words = omega (arith, is.words, word-small e.call);
    }

pub calls-after : (request_ms : ℕ) (base : Base) (entries : List Entry) → (base_after request_ms base entries).calls ≡ base.calls + length entries
calls-after request_ms base [] = omega arith
calls-after request_ms base (e ∷ entries) = omega (arith, calls-after request_ms (base_with request_ms base e) entries)

pub words-after : (request_ms : ℕ) (base : Base) (entries : List Entry) → (base_after request_ms base entries).words ≡ base.words + words_of entries
words-after request_ms base [] = omega arith
words-after request_ms base (e ∷ entries) =
    omega (arith, words-after request_ms (base_with request_ms base e) entries, sum_by-cons (λ (x : Entry). requested_word x.call) e entries)

pub base_after-push : (request_ms : ℕ) (base : Base) (entries : List Entry) (e : Entry)
    → base_after request_ms base (entries ++ e ∷ []) ≡ base_with request_ms (base_after request_ms base entries) e
base_after-push request_ms base entries e = fold_push (base_with request_ms) base entries e

pub base_after-append : (request_ms : ℕ) (base : Base) (first rest : List Entry)
    → base_after request_ms base (first ++ rest) ≡ base_after request_ms (base_after request_ms base first) rest
base_after-append request_ms base first rest = fold-append (base_with request_ms) base first rest

-- ---- histories

pub legal-none : (gap request_ms : ℕ) (base : Base) → IsLegalHistory gap request_ms base []
legal-none gap request_ms base i d below = absurd (omega arith)

pub legal-push : (gap request_ms : ℕ) (base : Base) (entries : List Entry) (e : Entry) → IsLegalHistory gap request_ms base entries
    → IsAnswerTo gap request_ms (base_after request_ms base entries) e.call e.answer → IsLegalHistory gap request_ms base (entries ++ e ∷ [])
legal-push gap request_ms base entries e legal is i d below =
    elim (cases_lt i (length entries)) [
      | inl less ↦ moved _ _ _ _ (take-append-le i entries (e ∷ []) (omega arith)) (get_or_append_left entries (e ∷ []) d i less) (legal i d less)
      | inr more ↦
          let last : length entries ≡ i = omega (arith, length_push entries e) in
          moved _ _ _ _ (take_at entries (e ∷ []) i last) (get_or_at entries e [] d i last) is
    ]
  where
    moved : (xs ys : List Entry) (x y : Entry) → xs ≡ ys → x ≡ y → IsAnswerTo gap request_ms (base_after request_ms base ys) y.call y.answer
        → IsAnswerTo gap request_ms (base_after request_ms base xs) x.call x.answer
    moved xs ys x y a b h =
        subst (λ zs. IsAnswerTo gap request_ms (base_after request_ms base zs) x.call x.answer) (sym a)
        (subst (λ z. IsAnswerTo gap request_ms (base_after request_ms base ys) z.call z.answer) (sym b) h)

-- the first entry is the one that is owed after the base
pub legal-first : (gap request_ms : ℕ) (base : Base) (e : Entry) (rest : List Entry) → IsLegalHistory gap request_ms base (e ∷ rest)
    → IsAnswerTo gap request_ms base e.call e.answer
legal-first gap request_ms base e rest legal = legal 0 e (omega arith)

-- folding the first entry keeps the others legal
pub legal-rest : (gap request_ms : ℕ) (base : Base) (e : Entry) (rest : List Entry) → IsLegalHistory gap request_ms base (e ∷ rest)
    → IsLegalHistory gap request_ms (base_with request_ms base e) rest
legal-rest gap request_ms base e rest legal i d below = legal (suc i) d (omega arith)

pub legal-folded : (gap request_ms : ℕ) (base : Base) (first rest : List Entry) → IsLegalHistory gap request_ms base (first ++ rest)
    → IsLegalHistory gap request_ms (base_after request_ms base first) rest
legal-folded gap request_ms base [] rest legal = legal
legal-folded gap request_ms base (e ∷ first) rest legal =
    legal-folded gap request_ms (base_with request_ms base e) first rest (legal-rest gap request_ms base e (first ++ rest) legal)

pub all-rest : (P : Entry → Type 0) (first rest : List Entry) → All P (first ++ rest) → All P rest
all-rest P [] rest all = all
all-rest P (e ∷ first) rest all = all-rest P first rest (λ k d below. all (suc k) d (omega arith))
