-- What a replay prints by the settings that a file holds.
use Rattle.std.proofs.Common.{◌≡◌, ◌≢◌, ◌∙◌, Bool, true, false, ap, sym, subst, inl, inr}
use Rattle.std.specs.Prelude.{ℕ, List, Option, None, Some, Ok, IfSome, codes}
use Rattle.std.specs.Io.KnownBytes.{Appends, Keeps}
use Rattle.cli.specs.Statuses.{ShowsFailure, status_of}
use Rattle.cli.specs.declared.status.Failure.{Failure}
use Rattle.cli.specs.declared.status.Failure.TheVariants.{NoMemory, Refused as RefusedLine, Io}
use Rattle.cli.specs.declared.status.Status.{Status}
use Rattle.cli.specs.declared.status.Status.TheVariants as status
use Rattle.replay.specs.declared.by_file.ReplaySettings.{ReplaySettings}
use Rattle.replay.specs.declared.shown.Shown.{Shown}
use Rattle.replay.specs.ByFile.{EndsReplay, HoldsSettings, NamesOthers, PrintsByFile, RefusesByFile, is_refused}
use Rattle.replay.specs.Replay.{EndsScript, IsOutside, PrintsReplay, RefusesReplay}
use Rattle.sha2.specs.Sha256.{sha256}

-- the bytes of a script, seen as a slice
pub whole_at : (input : Option (List ℕ)) (script items : List ℕ) → script ≡ items → IfSome input (λ bytes. items ≡ bytes)
    → IfSome input (λ bytes. script ≡ bytes)
whole_at None script items is whole = tt
whole_at (Some bytes) script items is whole = is ∙ whole

-- a test of it, by the digest as a slice
pub refused_at : (others : Bool) (seen digest script : List ℕ) (r b : Bool) → seen ≡ digest → r ≡ is_refused others seen script → r ≡ b
    → is_refused others digest script ≡ b
refused_at others seen digest script r b at_digest is value =
    ap (λ (d : List ℕ). is_refused others d script) (sym at_digest) ∙ (sym is ∙ value)

-- the script fits the settings
fits_by : (others : Bool) (s : ReplaySettings) (text script : List ℕ) → HoldsSettings text s → is_refused others s.digest script ≡ false
    → is_refused others (sha256 text) script ≡ false
fits_by others s text script held fits = subst (λ (d : List ℕ). is_refused others d script ≡ false) held.digest fits

-- it was played
pub played_by_file : (s : ReplaySettings) (shown : Shown) (others : Bool) (text script : List ℕ) (input old new errors_old errors_new : Option (List ℕ))
    (st : Status) → HoldsSettings text s → IfSome input (λ bytes. script ≡ bytes) → is_refused others s.digest script ≡ false
    → EndsScript s.file.settings shown (Some script) old new errors_old errors_new st
    → EndsReplay shown others input old new errors_old errors_new st
played_by_file s shown others text script None old new errors_old errors_new st held whole fits ends =
    record { done = λ is. tt; refused = λ is. inr tt }
played_by_file s shown others text script (Some bytes) old new errors_old errors_new st held whole fits ends = record {
  done = λ is. subst (λ (b : List ℕ). PrintsByFile shown others b old new) whole
      (record { file = text; settings = s.file; gives = held.gives; fits = fits_by others s text script held fits; prints = ends.done is });
  refused = λ is. inr (inr (subst (λ (b : List ℕ). RefusesByFile shown others b old new errors_old errors_new) whole
      (record { file = text; settings = s.file; gives = held.gives; fits = fits_by others s text script held fits; refuses = ends.refused is })));
}

-- it is of other settings
pub others_by_file : (s : ReplaySettings) (shown : Shown) (others : Bool) (text script : List ℕ) (input old errors_old errors_new : Option (List ℕ))
    (st : Status) → HoldsSettings text s → IfSome input (λ bytes. script ≡ bytes) → is_refused others s.digest script ≡ true → Keeps old old
    → st ≢ status.Done → (st ≡ status.Refused → Appends errors_old errors_new (codes "refused settings\n"))
    → EndsReplay shown others input old old errors_old errors_new st
others_by_file s shown others text script None old errors_old errors_new st held whole differs kept undone said =
    record { done = λ is. absurd (undone is); refused = λ is. inr tt }
others_by_file s shown others text script (Some bytes) old errors_old errors_new st held whole differs kept undone said = record {
  done = λ is. absurd (undone is);
  refused = λ is. inr (inl (subst (λ (b : List ℕ). NamesOthers others b old old errors_old errors_new) whole (record {
    file = text;
    settings = s.file;
    gives = held.gives;
    differs = subst (λ (d : List ℕ). is_refused others d script ≡ true) held.digest differs;
    kept = kept;
    said = said is;
  })));
}

-- a failure that refuses no line doesn't end a replay as refused
not_refused : (f : Failure) → IsOutside f → status_of f ≡ status.Refused → ⊥
not_refused NoMemory outside is = cc
not_refused Io outside is = cc
not_refused (RefusedLine line fault) outside is = absurd outside

-- the script couldn't be read
pub unread_by_file : (shown : Shown) (others : Bool) (f : Failure) (input old errors_old errors_new : Option (List ℕ)) (st : Status) → IsOutside f
    → ShowsFailure f errors_old errors_new st → EndsReplay shown others input old old errors_old errors_new st
unread_by_file shown others f input old errors_old errors_new st outside shows = record {
  done = λ is. absurd (shows.failed is);
  refused = λ is. absurd (not_refused f outside (shows.refused is).0);
}
