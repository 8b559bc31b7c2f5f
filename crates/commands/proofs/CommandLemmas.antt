-- How commands end.
use Rattle.std.proofs.Common.{◌≡◌, ◌≢◌, ◌∙◌, ℕ, Bool, List, None, Option, Some, inl, inr, refl, subst, sym, unwrap_or}
use Rattle.std.proofs.KnownBytes.{Keeps-refl}
use Rattle.cli.specs.CommandLine.{AsksOfUnit, Request, ask, bound, check, draw, offline_request, page, plan, replay, sdp, serve, version}
use Rattle.cli.specs.Ends.{EndsOffline}
use Rattle.cli.specs.declared.words.Offline.{Offline}
use Rattle.cli.specs.declared.words.Offline.TheVariants as offline
use Rattle.commands.specs.Commands.{Ends, EndsNumbered, EndsUnit}
use Rattle.commands.specs.Numbers.{SaysUnused}
use Rattle.leg_numbers.specs.declared.file.NumbersFault.{NumbersFault}
use Rattle.cli.specs.Statuses.{SaysWhy}
use Rattle.cli.specs.declared.status.Status.{Status}
use Rattle.cli.specs.declared.status.Status.TheVariants as status
use Rattle.replay.specs.ByFile.{EndsReplay, shown_by}
use Rattle.serving.proofs.ServeLemmas.{says_alone}
use Rattle.serving.specs.Serving.{EndsServe, FailsToStart, SaysWhyServing, turns_by}
use Rattle.settings.specs.Settings.{Configuration}

-- the words ask for one thing
pub ends_asked : (words : Option Request) (known asked : Request) (input old new errors_old errors_new : Option (List ℕ)) (s : Status)
    → words ≡ Some known → Ends known input old new errors_old errors_new s → words ≡ Some asked → Ends asked input old new errors_old errors_new s
ends_asked words known asked input old new errors_old errors_new s here ends is =
    let both : Some known ≡ Some asked = sym here ∙ is in
    let same : known ≡ asked = cc in
    subst (λ (r : Request). Ends r input old new errors_old errors_new s) same ends

-- a unit was served by these settings
pub unit_ends : (settings : Configuration) (tick_ms : ℕ) (ticks : Option ℕ) (old new errors_old errors_new : Option (List ℕ)) (s : Status)
    → EndsServe settings tick_ms (turns_by ticks) old new s → SaysWhyServing errors_old errors_new s → EndsUnit ticks old new errors_old errors_new s
unit_ends settings tick_ms ticks old new errors_old errors_new s ends says = record {
  done = λ is. (settings, tick_ms, ends.done is);
  failed = ends.socket;
  said = says;
}

-- none was, nothing was printed, and what any other command says was said
pub unit_undone : (ticks : Option ℕ) (printed errors_old errors_new : Option (List ℕ)) (s : Status) → s ≢ status.Done → SaysWhy errors_old errors_new s
    → EndsUnit ticks printed printed errors_old errors_new s
unit_undone ticks printed errors_old errors_new s fails says = record {
  done = λ is. absurd (fails is);
  failed = λ is. Keeps-refl printed;
  said = says_alone errors_old errors_new s fails says;
}

-- nothing was said of numbers
pub ends_unnumbered : (numbers : Option (List ℕ)) (ticks : Option ℕ) (old new errors_old errors_new : Option (List ℕ)) (s : Status)
    → EndsUnit ticks old new errors_old errors_new s → EndsNumbered numbers ticks old new errors_old errors_new s
ends_unnumbered numbers ticks old new errors_old errors_new s ends =
    record { said = errors_old; of_numbers = record { unasked = λ _. refl; notice = inl refl }; ends = ends }

-- this was said of the file of numbers, and then a unit was served
pub ends_noticed : (path : List ℕ) (fault : NumbersFault) (ticks : Option ℕ) (old new errors_old said errors_new : Option (List ℕ)) (s : Status)
    → SaysUnused fault errors_old said → EndsUnit ticks old new said errors_new s → EndsNumbered (Some path) ticks old new errors_old errors_new s
ends_noticed path fault ticks old new errors_old said errors_new s noticed ends =
    record { said = said; of_numbers = record { unasked = λ none. absurd cc; notice = inr (fault, noticed) }; ends = ends }

-- it couldn't be said, and none is served
pub ends_unstarted : (numbers : Option (List ℕ)) (ticks : Option ℕ) (printed errors_old errors_new : Option (List ℕ)) (s : Status)
    → FailsToStart errors_old errors_new s → EndsNumbered numbers ticks printed printed errors_old errors_new s
ends_unstarted numbers ticks printed errors_old errors_new s fails =
    ends_unnumbered numbers ticks printed printed errors_old errors_new s (unit_undone ticks printed errors_old errors_new s fails.failed fails.said)

-- the words couldn't be read, whatever they ask for
pub unread : (asked : Request) (input printed errors_old errors_new : Option (List ℕ)) (s : Status) → s ≢ status.Done → s ≢ status.Refused → s ≢ status.Settings
    → s ≢ status.Control → SaysWhy errors_old errors_new s → Ends asked input printed printed errors_old errors_new s
unread (bound media) input printed errors_old errors_new s fails read set_up heard says =
    record { done = λ is. absurd (fails is); refused = λ is. absurd (read is) }
unread (check file) input printed errors_old errors_new s fails read set_up heard says =
    record { done = λ is. absurd (fails is); refused = λ is. absurd (read is) }
unread (replay file leg endpoint from events gaps utc others) input printed errors_old errors_new s fails read set_up heard says =
    record { done = λ is. absurd (fails is); refused = λ is. absurd (read is) }
unread (serve file ticks seconds control recorded log_time numbers log_why) input printed errors_old errors_new s fails read set_up heard says =
    ends_unnumbered numbers ticks printed printed errors_old errors_new s (unit_undone ticks printed errors_old errors_new s fails says)
unread (draw media) input printed errors_old errors_new s fails read set_up heard says =
    record { done = λ is. absurd (fails is); refused = λ is. absurd (read is) }
unread version input printed errors_old errors_new s fails read set_up heard says = record { done = λ is. absurd (fails is); read = read }
unread (ask path words) input printed errors_old errors_new s fails read set_up heard says =
    record { refused = λ is. absurd (read is); control = λ is. absurd (heard is) }
unread (page path address anyone host) input printed errors_old errors_new s fails read set_up heard says = record { never = fails; read = read }
unread (sdp file endpoints) input printed errors_old errors_new s fails read set_up heard says =
    record { refused = λ is. absurd (read is); settings = λ is. absurd (set_up is) }
unread (plan file) input printed errors_old errors_new s fails read set_up heard says = record { done = λ is. absurd (fails is); read = read }

-- the words ask of a unit
pub of_unit : (words : Option Request) (known : Request) (errors_old errors_new : Option (List ℕ)) (s : Status) → words ≡ Some known
    → AsksOfUnit (Some known) → ¬ (AsksOfUnit words) → SaysWhy errors_old errors_new s
of_unit words known errors_old errors_new s here asks rests = absurd (rests (subst (λ (w : Option Request). AsksOfUnit w) (sym here) asks))

-- what needs no unit
pub offline_ends : (what : Offline) (input old new errors_old errors_new : Option (List ℕ)) (s : Status)
    → EndsOffline what input old new errors_old errors_new s → Ends (offline_request what) input old new errors_old errors_new s
offline_ends (offline.Bound media) input old new errors_old errors_new s ends = ends
offline_ends (offline.Check file) input old new errors_old errors_new s ends = ends
offline_ends (offline.Draw media) input old new errors_old errors_new s ends = ends
offline_ends offline.Version input old new errors_old errors_new s ends = ends

-- words that ask for a page don't ask for a set
pub no_set : (words : Option Request) (path address : List ℕ) (anyone : Bool) (host : Option (List ℕ)) (media : ℕ)
    → words ≡ Some (page path address anyone host) → words ≡ Some (bound media) → ⊥
no_set words path address anyone host media here there = cc

-- what is shown begins at the moment that the words have, or at 0
pub replay_ends : (leg endpoint from : Option ℕ) (events : Bool) (gaps : Option ℕ) (utc others : Bool) (from_ms : ℕ)
    (input old new errors_old errors_new : Option (List ℕ)) (s : Status) → from_ms ≡ unwrap_or from 0
    → EndsReplay (record { only_leg = leg; only_endpoint = endpoint; from_ms = from_ms; events = events; gaps_ms = gaps; utc = utc }) others
    input old new errors_old errors_new s
    → EndsReplay (shown_by leg endpoint from events gaps utc) others input old new errors_old errors_new s
replay_ends leg endpoint from events gaps utc others from_ms input old new errors_old errors_new s is ends =
    subst (λ (n : ℕ).
    EndsReplay (record { only_leg = leg; only_endpoint = endpoint; from_ms = n; events = events; gaps_ms = gaps; utc = utc }) others
    input old new errors_old errors_new s)
    is ends
