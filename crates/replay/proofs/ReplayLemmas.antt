-- Lines, steps and what they print, one after the other.
use Rattle.std.proofs.Common.{◌≡◌, ◌∙◌, ℕ, ◌+◌, ◌<◌, ◌≤◌, zero, suc, Bool, true, false, List, [], ◌∷◌, ◌++◌, map, Bor, length, drop, get_or, Option, None, Some, Result, Ok, Err, refl, sym, ap, subst, inl, inr, arith, append_assoc}
use Rattle.std.specs.Prelude.{OnOk, is_some}
use Rattle.std.specs.Io.KnownBytes.{Appends}
use Rattle.std.proofs.KnownBytes.{Appends-kept, Appends-nil}
use Rattle.std.proofs.lemmas.List.{append-nil, drop_all, length-map}
use Rattle.settings.specs.Settings.{Configuration}
use Rattle.events.specs.declared.event.Event.{Event}
use Rattle.events.specs.declared.event.Event.TheVariants.{Ingress, Work}
use Rattle.events.specs.declared.output.Out.{Out}
use Rattle.core_steps.specs.Opening.{IsNewWorld}
use Rattle.core_steps.specs.Run.{HasRun}
use Rattle.core_steps.specs.World.{WorldState}
use Rattle.core_steps.specs.Rule.{is_busy}
use Rattle.core_steps.specs.Settling.{ingress_left}
use Rattle.core_steps.proofs.SettleLemmas.{step_of}
use Rattle.core_steps.proofs.AsideLemmas.{ingress_same, work_aside}
use Rattle.cli.specs.declared.status.Failure.{Failure}
use Rattle.cli.specs.declared.status.Failure.TheVariants.{NoMemory, Refused as RefusedLine, Io}
use Rattle.replay.specs.declared.script.ScriptLine.{ScriptLine}
use Rattle.replay.specs.declared.script.ScriptLine.TheVariants.{Skipped, Unreadable}
use Rattle.request_text.specs.Lines.{lines_of}
use Rattle.replay.specs.Replay.{Drains, FailsLine, FailsLines, FailsReplay, Follows, GivesOut, IngressDrains, IsOutside, LinePlays, LinesPlay, PrintsLine, PrintsLines, PrintsReplay, Rounds, ScriptLinePlays, Settles, WorkerDrains, WorkersDrain, again, cause_behind, numbers_of, over, quiet, round, scene}
use Rattle.settings.specs.Links.{LinkTable, table_of}
use Rattle.replay.specs.Head.{clock_in}
use Rattle.replay.specs.declared.script.Command.{Command}
use Rattle.replay.specs.Shown.{Cause, Given, Scene, Told, all_told, an_out, cause_after, cause_of, command_input, comment_told, event_told, first_trail, given_at, no_cause, shown_text, the_end, trail}
use Rattle.replay.specs.declared.last_packets.LastPacket.{LastPacket}
use Rattle.replay.specs.declared.replay.Progress.{Progress}
use Rattle.replay.specs.declared.shown.Shown.{Shown}
use Rattle.replay.specs.Printing.{PrintsGiven}
use Rattle.replay.proofs.ShownLemmas.{more_printed}
use Rattle.replay.specs.Script.{script_line_of}
use Rattle.request_text.proofs.LineLemmas.{at_line}

-- ---- what is given out

-- outs after outs
pub joined : (old mid new first second : List Out) → mid ≡ old ++ first → new ≡ mid ++ second → new ≡ old ++ (first ++ second)
joined old mid new first second p q = q ∙ (ap (λ (xs : List Out). xs ++ second) p ∙ append_assoc old first second)

-- ---- lines

abbrev texts : List (Bor (List ℕ)) → List (List ℕ)
texts lines = map (λ (x : Bor (List ℕ)). x.now) lines

-- after the last line that they are over is told
played_out : (c : Configuration) (i : ℕ) (cause : Cause) (lines : List (Bor (List ℕ))) (w : WorldState) → length lines ≤ i
    → LinesPlay c (i + 1) cause (drop i (texts lines)) w (given_at cause (the_end ∷ [])) None
played_out c i cause lines w past =
    let all : length (texts lines) ≤ i = rw length-map past in
    subst (λ (ls : List (List ℕ)). LinesPlay c (i + 1) cause ls w (given_at cause (the_end ∷ [])) None) (sym (drop_all i (texts lines) all)) (refl, refl)

pub plays_on : (c : Configuration) (i : ℕ) (here there : Cause) (lines : List (Bor (List ℕ))) (d : Bor (List ℕ)) (w next : WorldState)
    (told : List Told) (others : List Given) (stopped : Option ℕ) → i < length lines → there ≡ cause_behind c (i + 1) (get_or lines i d).now here
    → LinePlays c (get_or lines i d).now w next told → LinesPlay c (i + 1 + 1) there (drop (i + 1) (texts lines)) next others stopped
    → LinesPlay c (i + 1) here (drop i (texts lines)) w (given_at there told ++ others) stopped
plays_on c i here there lines d w next told others stopped below is line rest =
    subst (λ (ls : List (List ℕ)). LinesPlay c (i + 1) here ls w (given_at there told ++ others) stopped) (sym (at_line i lines d below))
    (inl (
      next,
      told,
      others,
      line,
      subst (λ (k : Cause). LinesPlay c (i + 1 + 1) k (drop (i + 1) (texts lines)) next others stopped) is rest,
      ap (λ (k : Cause). given_at k told ++ others) is,
    ))

pub stops_at : (c : Configuration) (i : ℕ) (cause : Cause) (lines : List (Bor (List ℕ))) (d : Bor (List ℕ)) (w : WorldState) → i < length lines
    → script_line_of (numbers_of c) (get_or lines i d).now ≡ Unreadable → LinesPlay c (i + 1) cause (drop i (texts lines)) w [] (Some (i + 1))
stops_at c i cause lines d w below unreadable =
    subst (λ (ls : List (List ℕ)). LinesPlay c (i + 1) cause ls w [] (Some (i + 1))) (sym (at_line i lines d below))
    (inr (unreadable, refl, refl))

-- a line that is no command
pub passes : (c : Configuration) (v : Scene) (n : ℕ) (line : List ℕ) (w : WorldState) (here there : Progress) (last : List LastPacket)
    (old new : Option (List ℕ)) (r : ScriptLine) → r ≡ Skipped → r ≡ script_line_of (numbers_of c) line
    → cause_of there.latest ≡ cause_after n line r (cause_of here.latest)
    → PrintsGiven v (trail here.said last) (given_at (cause_of there.latest) (comment_told line)) (trail there.said last) old new
    → PrintsLine c v n line w w here there last last old new
passes c v n line w here there last old new r skipped read latest printed = record {
  told = comment_told line;
  plays = subst (λ (x : ScriptLine). ScriptLinePlays c line w x w (comment_told line)) (sym skipped ∙ read) (refl, refl);
  latest = latest ∙ ap (λ (x : ScriptLine). cause_after n line x (cause_of here.latest)) read;
  printed = printed;
}

-- What was played so far: from a new world, and what is shown of what it gave was printed; whatever the lines from here on give comes
-- after it.
pub record Played (c : Configuration) (v : Scene) (script : List ℕ) (i : ℕ) (lines : List (List ℕ)) (w : WorldState) (here : Progress)
    (last : List LastPacket) (old new : Option (List ℕ)) : Type 0 where
  pub first : WorldState
  pub opened : IsNewWorld c first
  pub given : List Given
  pub printed : PrintsGiven v (first_trail v) given (trail here.said last) old new
  pub rest : (others : List Given) (stopped : Option ℕ) → LinesPlay c (i + 1) (cause_of here.latest) (drop i lines) w others stopped
      → LinesPlay c 1 no_cause (lines_of script) first (given ++ others) stopped

pub opens : (c : Configuration) (v : Scene) (script : List ℕ) (lines : List (List ℕ)) (w : WorldState) (here : Progress) (last : List LastPacket)
    (old : Option (List ℕ)) → IsNewWorld c w → lines ≡ lines_of script → cause_of here.latest ≡ no_cause → trail here.said last ≡ first_trail v
    → Played c v script 0 lines w here last old old
opens c v script lines w here last old new is none unsaid = record {
  first = w;
  opened = new;
  given = [];
  printed = record { printed = Appends-nil old; ends = unsaid };
  rest = λ others stopped play.
      subst (λ (ls : List (List ℕ)). LinesPlay c 1 no_cause ls w others stopped) is
      (subst (λ (k : Cause). LinesPlay c 1 k lines w others stopped) none play);
}

pub goes_on : (c : Configuration) (v : Scene) (script : List ℕ) (i number : ℕ) (lines : List (Bor (List ℕ))) (d : Bor (List ℕ)) (w next : WorldState)
    (here there : Progress) (last then_last : List LastPacket) (old mid new : Option (List ℕ)) → i < length lines → number ≡ i
    → Played c v script i (texts lines) w here last old mid
    → PrintsLine c v (number + 1) (get_or lines i d).now w next here there last then_last mid new
    → Played c v script (i + 1) (texts lines) next there then_last old new
goes_on c v script i number lines d w next here there last then_last old mid new below counted played told =
    let k = cause_of there.latest in
    let line = subst (λ (n : ℕ). PrintsLine c v (n + 1) (get_or lines i d).now w next here there last then_last mid new) counted told in record {
      first = played.first;
      opened = played.opened;
      given = played.given ++ given_at k line.told;
      printed = more_printed v (first_trail v) (trail here.said last) (trail there.said then_last) played.given (given_at k line.told) old mid new
          played.printed line.printed;
      rest = λ others stopped play.
          subst (λ (t : List Given). LinesPlay c 1 no_cause (lines_of script) played.first t stopped)
          (sym (append_assoc played.given (given_at k line.told) others))
          (played.rest (given_at k line.told ++ others) stopped
          (plays_on c i (cause_of here.latest) k lines d w next line.told others stopped below line.latest line.plays play));
    }

pub ends : (c : Configuration) (v : Scene) (script : List ℕ) (i : ℕ) (lines : List (Bor (List ℕ))) (w : WorldState) (here : Progress)
    (last : List LastPacket) (old mid new : Option (List ℕ)) → length lines ≤ i → Played c v script i (texts lines) w here last old mid
    → PrintsGiven v (trail here.said last) (given_at (cause_of here.latest) (the_end ∷ [])) (trail here.said last) mid new
    → PrintsLines c v script old new
ends c v script i lines w here last old mid new past played end =
    let k = cause_of here.latest in
    let all = more_printed v (first_trail v) (trail here.said last) (trail here.said last) played.given (given_at k (the_end ∷ [])) old mid new
    played.printed end in record {
      given = played.given ++ given_at k (the_end ∷ []);
      plays = record {
        world = played.first;
        opened = played.opened;
        lines = played.rest (given_at k (the_end ∷ [])) None (played_out c i k lines w past);
      };
      printed = all.printed;
    }

pub fails : (c : Configuration) (v : Scene) (script : List ℕ) (i number : ℕ) (lines : List (Bor (List ℕ))) (d : Bor (List ℕ)) (w : WorldState)
    (here : Progress) (last : List LastPacket) (old mid new : Option (List ℕ)) (failure : Failure) → i < length lines → number ≡ i
    → Played c v script i (texts lines) w here last old mid → FailsLine c (number + 1) (get_or lines i d).now mid new failure
    → FailsLines c v script old new failure
fails c v script i number lines d w here last old mid new NoMemory below counted played f = tt
fails c v script i number lines d w here last old mid new Io below counted played f = tt
fails c v script i number lines d w here last old mid new (RefusedLine n fault) below counted played f =
    let place : n ≡ i + 1 = f.0 ∙ ap (λ (k : ℕ). k + 1) counted in
    let stop = played.rest [] (Some (i + 1)) (stops_at c i (cause_of here.latest) lines d w below f.2) in
    let printed = subst (λ (gs : List Given). Appends old mid (shown_text v gs)) (sym (append-nil played.given)) played.printed.printed in (
      f.1,
      record {
        given = played.given ++ [];
        plays = record {
          world = played.first;
          opened = played.opened;
          lines = subst (λ (k : ℕ). LinesPlay c 1 no_cause (lines_of script) played.first (played.given ++ []) (Some k)) (sym place) stop;
        };
        printed = Appends-kept old mid new (shown_text v (played.given ++ [])) printed f.3;
      },
    )

-- no line was refused
pub outside_fails : (c : Configuration) (v : Scene) (script : List ℕ) (old new : Option (List ℕ)) (failure : Failure) → IsOutside failure
    → FailsLines c v script old new failure
outside_fails c v script old new NoMemory outside = tt
outside_fails c v script old new Io outside = tt
outside_fails c v script old new (RefusedLine n fault) outside = absurd outside

-- the scene of a script is that of its lines
pub prints_by : (c : Configuration) (s : Shown) (v : Scene) (script : List ℕ) (old new : Option (List ℕ)) → v ≡ scene c s script
    → PrintsLines c v script old new → PrintsReplay c s script old new
prints_by c s v script old new is prints = subst (λ (x : Scene). PrintsLines c x script old new) is prints

pub fails_by : (c : Configuration) (s : Shown) (v : Scene) (script : List ℕ) (old new : Option (List ℕ)) (failure : Failure) → v ≡ scene c s script
    → FailsLines c v script old new failure → FailsReplay c s (Some script) old new failure
fails_by c s v script old new NoMemory is f = tt
fails_by c s v script old new Io is f = tt
fails_by c s v script old new (RefusedLine n fault) is f = subst (λ (x : Scene). FailsLines c x script old new (RefusedLine n fault)) is f

-- the parts of a scene
pub scene_is : (c : Configuration) (s : Shown) (script : List ℕ) (t : LinkTable) (k : Option ℕ) → t ≡ table_of c → k ≡ clock_in s.utc script
    → record { table = t; shown = s; clock = k } ≡ scene c s script
scene_is c s script t k table clock =
    ap (λ (x : LinkTable). scene_with x s k) table ∙ ap (λ (x : Option ℕ). scene_with (table_of c) s x) clock
  where
    scene_with : LinkTable → Shown → Option ℕ → Scene
    scene_with x y z = record { table = x; shown = y; clock = z }

-- what a command gives is told
pub told_of : (command : Command) (is_event : Bool) (outs given : List Out) → is_event ≡ is_some (command_input command) → outs ≡ given
    → event_told is_event ++ map an_out outs ≡ all_told command given
told_of command is_event outs given event same =
    ap (λ (b : Bool). event_told b ++ map an_out outs) event
    ∙ ap (λ (os : List Out). event_told (is_some (command_input command)) ++ map an_out os) same

-- ---- settling

-- What was done so far, and was given out; whatever is done from here on comes after it.
pub record Drained (waits : WorldState → Bool) (event : Event) (first w : WorldState) (old new : List Out) : Type 0 where
  pub outs : List Out
  pub given : new ≡ old ++ outs
  pub rest : (others : List Out) (final : WorldState) → Drains waits event w others final → Drains waits event first (outs ++ others) final

pub drains_on : (waits : WorldState → Bool) (event : Event) (first w next : WorldState) (old mid new : List Out) (outs : List Out)
    → waits w ≡ true → Drained waits event first w old mid → HasRun (event ∷ []) w [] next outs → new ≡ mid ++ outs
    → Drained waits event first next old new
drains_on waits event first w next old mid new outs busy d run given = record {
  outs = d.outs ++ outs;
  given = joined old mid new d.outs outs d.given given;
  rest = λ others final more.
      subst (λ (xs : List Out). Drains waits event first xs final) (sym (append_assoc d.outs outs others))
      (d.rest (outs ++ others) final (again busy run more));
}

pub is_drained : (waits : WorldState → Bool) (event : Event) (first w : WorldState) (old new : List Out) → waits w ≡ false
    → Drained waits event first w old new
    → (outs : List Out) × Drains waits event first outs w × (new ≡ old ++ outs)
is_drained waits event first w old new idle d =
    (d.outs, subst (λ (xs : List Out). Drains waits event first xs w) (append-nil d.outs) (d.rest [] w (over idle)), d.given)

-- the same of workers, of which so many are to come
pub record WorkersDrained (count k : ℕ) (first w : WorldState) (old new : List Out) : Type 0 where
  pub outs : List Out
  pub given : new ≡ old ++ outs
  pub rest : (left : ℕ) (others : List Out) (final : WorldState) → left + k ≡ count → WorkersDrain left k w others final
      → WorkersDrain count 0 first (outs ++ others) final

pub workers_on : (count k : ℕ) (first w next : WorldState) (old mid new : List Out) (outs : List Out)
    → WorkersDrained count k first w old mid → WorkerDrains k w outs next → new ≡ mid ++ outs
    → WorkersDrained count (k + 1) first next old new
workers_on count k first w next old mid new outs d drains given = record {
  outs = d.outs ++ outs;
  given = joined old mid new d.outs outs d.given given;
  rest = λ left others final is more.
      let total : suc left + k ≡ count = omega (arith, is) in
      subst (λ (xs : List Out). WorkersDrain count 0 first xs final) (sym (append_assoc d.outs outs others))
      (d.rest (suc left) (outs ++ others) final total (next, outs, others, drains, more, refl));
}

pub workers_over : (count k : ℕ) (first w : WorldState) (old new : List Out) → count ≡ k → WorkersDrained count k first w old new
    → (outs : List Out) × WorkersDrain count 0 first outs w × (new ≡ old ++ outs)
workers_over count k first w old new all d =
    let none : zero + k ≡ count = omega (arith, all) in
    (d.outs, subst (λ (xs : List Out). WorkersDrain count 0 first xs w) (append-nil d.outs) (d.rest zero [] w none (refl, refl)), d.given)

-- the ingress first, then the workers
pub settled : {T E : Type 0} (count workers : ℕ) (w mid final : WorldState) (old m new : List Out) (r : Result T E)
    → count ≡ workers → GivesOut (λ outs. IngressDrains w outs mid) old m
    → OnOk r (GivesOut (λ outs. WorkersDrain count 0 mid outs final) m new)
    → OnOk r (GivesOut (λ outs. Settles workers w outs final) old new)
settled count workers w mid final old m new (Err e) same first others = tt
settled count workers w mid final old m new (Ok done) same first others = (
  first.0 ++ others.0,
  record {
    next = mid;
    first = first.0;
    others = others.0;
    ingress = first.1;
    each = subst (λ (n : ℕ). WorkersDrain n 0 mid others.0 final) same others.1;
    given = refl;
  },
  joined old m new first.0 others.0 first.2 others.2,
)

-- ---- rounds

-- a step of a worker leaves as much to the ingress as there was
pub work_keeps_ingress : (k : ℕ) (w next : WorldState) (outs all : List Out) → HasRun (Work k ∷ []) w outs next all
    → ingress_left next ≡ ingress_left w
work_keeps_ingress k w next outs all r =
    let s = step_of w (Work k) next outs all r in
    ap ingress_left s.leads ∙ ingress_same w s.happening (work_aside w k s.happening s.does)

-- Rounds that were made so far, and what they gave; whatever is done from here on comes after it.
pub record RoundsMade (workers : ℕ) (first w : WorldState) (old new : List Out) : Type 0 where
  pub outs : List Out
  pub given : new ≡ old ++ outs
  pub rest : (others : List Out) (final : WorldState) → Rounds workers w others final → Rounds workers first (outs ++ others) final

pub rounds_on : (workers : ℕ) (first w next behind : WorldState) (old mid late new : List Out) (outs more : List Out)
    → is_busy w ≡ true → RoundsMade workers first w old mid → HasRun (Ingress ∷ []) w [] next outs → late ≡ mid ++ outs
    → WorkersDrain workers 0 next more behind → new ≡ late ++ more → RoundsMade workers first behind old new
rounds_on workers first w next behind old mid late new outs more busy d run given drains told = record {
  outs = d.outs ++ (outs ++ more);
  given = joined old mid new d.outs (outs ++ more) d.given (joined mid late new outs more given told);
  rest = λ others final last.
      subst (λ (xs : List Out). Rounds workers first xs final) (sym (append_assoc d.outs (outs ++ more) others))
      (d.rest ((outs ++ more) ++ others) final
      (subst (λ (xs : List Out). Rounds workers w xs final) (sym (append_assoc outs more others)) (round more behind busy run drains last)));
}

pub rounds_over : (workers : ℕ) (first w : WorldState) (old new : List Out) → is_busy w ≡ false → RoundsMade workers first w old new
    → (outs : List Out) × Rounds workers first outs w × (new ≡ old ++ outs)
rounds_over workers first w old new idle d =
    (d.outs, subst (λ (xs : List Out). Rounds workers first xs w) (append-nil d.outs) (d.rest [] w (quiet idle)), d.given)

-- the workers first, then the rounds
pub followed : {T E : Type 0} (count workers : ℕ) (w mid final : WorldState) (old m new : List Out) (r : Result T E)
    → count ≡ workers → GivesOut (λ outs. WorkersDrain count 0 w outs mid) old m
    → OnOk r (GivesOut (λ outs. Rounds count mid outs final) m new)
    → OnOk r (GivesOut (λ outs. Follows workers w outs final) old new)
followed count workers w mid final old m new (Err e) same first others = tt
followed count workers w mid final old m new (Ok done) same first others = (
  first.0 ++ others.0,
  record {
    next = mid;
    first = first.0;
    others = others.0;
    each = subst (λ (n : ℕ). WorkersDrain n 0 w first.0 mid) same first.1;
    rounds = subst (λ (n : ℕ). Rounds n mid others.0 final) same others.1;
    given = refl;
  },
  joined old m new first.0 others.0 first.2 others.2,
)
