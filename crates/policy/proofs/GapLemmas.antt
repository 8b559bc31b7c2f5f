-- What is asked for last on a leg is heard in the end, and nothing within a gap of what was heard before.
use Rattle.std.proofs.Common.{◌≡◌, ◌⊎◌, inl, inr, ◌∙◌, ◌==◌, ℕ, Bool, true, false, List, [], ◌∷◌, refl, ap, subst, sym}
use Rattle.std.specs.Prelude.{Option, None, Some, if◌then◌else◌}
use Rattle.settings.specs.declared.settings.LegSettings.{LegSettings}
use Rattle.policy.specs.RequestGaps.{AreGapsApart, GapHappening, IsHeardInTheEnd, IsNotLost, asks, gap_asked, gap_looked, heard_at, heard_if, heard_waiting, is_open, is_past, last_moment, last_word, leaves, leg_after, looked_at, word_asked_last, words_heard}
use Rattle.policy.specs.declared.request_gaps.LegGap.{LegGap}

-- ---- what was heard last

-- when something was heard last is when the leg was heard last
same_if : (gap moment word : ℕ) (g : LegGap) (heard : List (ℕ × ℕ)) (b : Bool) → g.heard ≡ last_moment heard
    → (if b then heard_at moment g else record { subscriber = g.subscriber; heard = g.heard; waiting = Some word }).heard
    ≡ last_moment (heard_if b moment word heard)
same_if gap moment word g heard true is = refl
same_if gap moment word g heard false is = is

same_waiting : (gap moment : ℕ) (g : LegGap) (heard : List (ℕ × ℕ)) (waiting : Option ℕ) (b : Bool) → b ≡ is_open gap moment g
    → g.heard ≡ last_moment heard
    → (gap_looked gap moment g waiting).heard ≡ last_moment (heard_waiting b moment waiting heard)
same_waiting gap moment g heard None b past is = is
same_waiting gap moment g heard (Some word) true past is =
    ap (λ (b : Bool). (if b then heard_at moment g else g).heard) (sym past)
same_waiting gap moment g heard (Some word) false past is =
    ap (λ (b : Bool). (if b then heard_at moment g else g).heard) (sym past) ∙ is

heard_is : (gap : ℕ) (leg : LegSettings) (happenings : List GapHappening)
    → (leg_after gap leg happenings).heard ≡ last_moment (words_heard gap leg happenings)
heard_is gap leg [] = refl
heard_is gap leg (asks moment word ∷ earlier) =
    same_if gap moment word (leg_after gap leg earlier) (words_heard gap leg earlier) (is_open gap moment (leg_after gap leg earlier))
    (heard_is gap leg earlier)
heard_is gap leg (looked_at moment ∷ earlier) =
    same_waiting gap moment (leg_after gap leg earlier) (words_heard gap leg earlier) (leg_after gap leg earlier).waiting
    (is_open gap moment (leg_after gap leg earlier)) refl (heard_is gap leg earlier)
heard_is gap leg (leaves ∷ earlier) = heard_is gap leg earlier

-- ---- nothing within a gap

apart_if : (gap moment word : ℕ) (heard : List (ℕ × ℕ)) (b : Bool) → b ≡ is_past gap moment (last_moment heard) → AreGapsApart gap heard
    → AreGapsApart gap (heard_if b moment word heard)
apart_if gap moment word heard true past apart = (sym past, apart)
apart_if gap moment word heard false past apart = apart

apart_waiting : (gap moment : ℕ) (waiting : Option ℕ) (heard : List (ℕ × ℕ)) (b : Bool) → b ≡ is_past gap moment (last_moment heard)
    → AreGapsApart gap heard → AreGapsApart gap (heard_waiting b moment waiting heard)
apart_waiting gap moment None heard b past apart = apart
apart_waiting gap moment (Some word) heard b past apart = apart_if gap moment word heard b past apart

pub gaps_apart : (gap : ℕ) (leg : LegSettings) (happenings : List GapHappening) → AreGapsApart gap (words_heard gap leg happenings)
gaps_apart gap leg [] = tt
gaps_apart gap leg (asks moment word ∷ earlier) =
    apart_if gap moment word (words_heard gap leg earlier) (is_open gap moment (leg_after gap leg earlier))
    (ap (is_past gap moment) (heard_is gap leg earlier)) (gaps_apart gap leg earlier)
gaps_apart gap leg (looked_at moment ∷ earlier) =
    apart_waiting gap moment (leg_after gap leg earlier).waiting (words_heard gap leg earlier) (is_open gap moment (leg_after gap leg earlier))
    (ap (is_past gap moment) (heard_is gap leg earlier)) (gaps_apart gap leg earlier)
gaps_apart gap leg (leaves ∷ earlier) = gaps_apart gap leg earlier

-- ---- what was asked for last

abbrev Kept : Option ℕ → List (ℕ × ℕ) → ℕ → Type 0
Kept waiting heard word = (waiting ≡ Some word) ⊎ ((waiting ≡ None) × (last_word heard ≡ Some word))

kept_if : (moment word : ℕ) (g : LegGap) (heard : List (ℕ × ℕ)) (b : Bool)
    → Kept (if b then heard_at moment g else record { subscriber = g.subscriber; heard = g.heard; waiting = Some word }).waiting
    (heard_if b moment word heard) word
kept_if moment word g heard true = inr (refl, refl)
kept_if moment word g heard false = inl refl

kept_open : (moment word last : ℕ) (g : LegGap) (heard : List (ℕ × ℕ)) (b : Bool) → g.waiting ≡ Some word → Kept g.waiting heard last
    → Kept (if b then heard_at moment g else g).waiting (heard_if b moment word heard) last
kept_open moment word last g heard true waits (inl is) = inr (refl, sym waits ∙ is)
kept_open moment word last g heard true waits (inr (none, is)) = absurd (cc)
kept_open moment word last g heard false waits kept = kept

kept_waiting : (gap moment last : ℕ) (g : LegGap) (heard : List (ℕ × ℕ)) (waiting : Option ℕ) → g.waiting ≡ waiting → Kept g.waiting heard last
    → Kept (gap_looked gap moment g waiting).waiting (heard_waiting (is_open gap moment g) moment waiting heard) last
kept_waiting gap moment last g heard None is kept = kept
kept_waiting gap moment last g heard (Some word) is kept = kept_open moment word last g heard (is_open gap moment g) is kept

abbrev word_of : Option ℕ → ℕ
word_of None = 0
word_of (Some word) = word

kept_last : (gap : ℕ) (leg : LegSettings) (happenings : List GapHappening) (word : ℕ) → word_asked_last happenings ≡ Some word
    → Kept (leg_after gap leg happenings).waiting (words_heard gap leg happenings) word
kept_last gap leg [] word is = absurd (cc)
kept_last gap leg (asks moment last ∷ earlier) word is =
    subst (λ (w : ℕ). Kept (leg_after gap leg (asks moment last ∷ earlier)).waiting (words_heard gap leg (asks moment last ∷ earlier)) w) (ap word_of is)
    (kept_if moment last (leg_after gap leg earlier) (words_heard gap leg earlier) (is_open gap moment (leg_after gap leg earlier)))
kept_last gap leg (looked_at moment ∷ earlier) word is =
    kept_waiting gap moment word (leg_after gap leg earlier) (words_heard gap leg earlier) (leg_after gap leg earlier).waiting refl
    (kept_last gap leg earlier word is)
kept_last gap leg (leaves ∷ earlier) word is = absurd (cc)

pub is_not_lost : (gap : ℕ) (leg : LegSettings) (happenings : List GapHappening) (word : ℕ) → word_asked_last happenings ≡ Some word
    → IsNotLost gap leg happenings word
is_not_lost gap leg happenings word is = record { kept = kept_last gap leg happenings word is }

in_the_end : (moment word : ℕ) (waiting : Option ℕ) (heard : List (ℕ × ℕ)) (b : Bool) → b ≡ true → Kept waiting heard word
    → last_word (heard_waiting b moment waiting heard) ≡ Some word
in_the_end moment word None heard b past (inl is) = absurd (cc)
in_the_end moment word None heard b past (inr (none, is)) = is
in_the_end moment word (Some waits) heard true past (inl is) = is
in_the_end moment word (Some waits) heard true past (inr (none, is)) = absurd (cc)
in_the_end moment word (Some waits) heard false past kept = absurd (cc)

pub is_heard_in_the_end : (gap : ℕ) (leg : LegSettings) (moment : ℕ) (earlier : List GapHappening) (word : ℕ)
    → is_past gap moment (last_moment (words_heard gap leg earlier)) ≡ true → word_asked_last earlier ≡ Some word
    → IsHeardInTheEnd gap leg moment earlier word
is_heard_in_the_end gap leg moment earlier word over is = record {
  heard = in_the_end moment word (leg_after gap leg earlier).waiting (words_heard gap leg earlier) (is_open gap moment (leg_after gap leg earlier))
      (ap (is_past gap moment) (heard_is gap leg earlier) ∙ over) (kept_last gap leg earlier word is);
}
