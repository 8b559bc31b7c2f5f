-- What a run makes of the legs of each worker.
use Rattle.std.proofs.Common.{◌≡◌, ◌≢◌, ◌<◌, get_or, ℕ, zero, suc, List, [], ◌∷◌, ◌++◌, Bool, true, false, Option, None, Some, Result, Ok, Err, refl, ap, sym, ◌∙◌, subst, append-nil, arith}
use Rattle.std.specs.Prelude.{fold, map, slice_get, ◌==◌, if◌then◌else◌, option_map}
use Rattle.std.specs.List.{flat_map, AllByRecursion}
use Rattle.std.proofs.lemmas.Bool.{eqb-true, eq-eqb}
use Rattle.std.proofs.lemmas.List.{get_or-set_same, get_or-set_other}
use Rattle.std.proofs.lemmas.List.Folds.{fold-map}
use Rattle.std.proofs.lemmas.List.Sums.{fold-append}
use Rattle.std.proofs.lemmas.Option.{get_or_from_slice_get, slice_get_within, slice_get-map, same_Some}
use Rattle.circular_buffer.proofs.Places.{slice_get-some}
use Rattle.circular_buffer.specs.Buffer.{keep_last}
use Rattle.members.specs.declared.order.Row.{Row}
use Rattle.settings.specs.declared.settings.LegSettings.{LegSettings}
use Rattle.settings.specs.Settings.{Configuration}
use Rattle.resend_ring.specs.Kept.{Kept, SentPacket as Sent, kept_in_turn, last_kept_with}
use Rattle.resend_ring.proofs.KeptLemmas.{kept_from_none}
use Rattle.rewrite.specs.declared.skip.Skip.{Skip as Cause}
use Rattle.rewrite.specs.Leg.{Held, new_leg, held_with, held_after}
use Rattle.rtcp_feedback.specs.Nack.{lost_numbers}
use Rattle.events.specs.declared.event.Event.{Event}
use Rattle.events.specs.declared.job.Job.{Job}
use Rattle.events.specs.declared.job.Job.TheVariants.{Packet, Request, Resend, Pli, Report, Goodbye}
use Rattle.legs.specs.declared.leg.LegState.{LegState}
use Rattle.core_steps.specs.Happening.{Happening, Worked, no_worker, worker_after, workers_by, world_after}
use Rattle.legs.specs.Legs.{new_leg_of, owned_by, new_legs, takes, row_of, stands, answer_on, packet_after, resent, leg_after, legs_after}
use Rattle.settings.specs.Links.{LinkTable, cname_of, table_of, numbered_legs, worker_of}
use Rattle.core_steps.specs.Numbered.{Finished, finished_by, jobs_of_worker, finished_at, finished_over, Taken, packets_taken_by, taken_on, incoming_packet, sent_as, sent_on, AtLeg, HasTaken, HasTakenAll, legs_at}
use Rattle.core_steps.specs.Opening.{IsNewWorld}
use Rattle.shared_packet.specs.Rtp.{sequence_number}
use Rattle.core_steps.specs.Run.{Runs, worlds_after}
use Rattle.core_steps.specs.World.{WorldState, WorkerState}
use Rattle.core_steps.proofs.KindLemmas.{IsAt, IsAtOne, kind_of}

-- ---- a worker's legs are as the jobs that it finished leave them

abbrev leg_by : LegState → Finished → LegState
leg_by s f = leg_after f.rows f.job s

abbrev legs_by : List LegState → Finished → List LegState
legs_by legs f = legs_after f.rows legs f.job

legs_of_one : (w : WorldState) (k : ℕ) (d : Worked) → IsAt w d → (b : Bool) → (d.worker == k) ≡ b
    → (get_or (workers_by w.workers d) k no_worker).legs
    ≡ fold legs_by (legs_at k w) (map (finished_by w.rows) ((if b then d.finished else []) ++ []))
legs_of_one w k d i true e =
    let same : d.worker ≡ k = eqb-true d.worker k e in
    let f : slice_get w.workers k ≡ Some i.state = subst (λ (x : ℕ). slice_get w.workers x ≡ Some i.state) same i.there in
    let at : get_or w.workers k no_worker ≡ i.state = get_or_from_slice_get w.workers k i.state no_worker f in
    let here : get_or (workers_by w.workers d) k no_worker ≡ worker_after (get_or w.workers d.worker no_worker) d =
    subst (λ (x : ℕ). get_or (workers_by w.workers d) x no_worker ≡ worker_after (get_or w.workers d.worker no_worker) d) same
    (get_or-set_same w.workers d.worker (worker_after (get_or w.workers d.worker no_worker) d) no_worker
    (slice_get_within w.workers d.worker i.state i.there)) in
    ap (λ (x : WorkerState). x.legs) here
    ∙ i.legs
    ∙ ap (λ (x : WorkerState). fold (legs_after w.rows) x.legs d.finished) (sym at)
    ∙ sym (fold-map legs_by (finished_by w.rows) (legs_at k w) d.finished)
    ∙ ap (λ (js : List Job). fold legs_by (legs_at k w) (map (finished_by w.rows) js)) (sym (append-nil d.finished))
legs_of_one w k d i false e =
    let other : k ≢ d.worker = λ h. absurd (let t : (d.worker == k) ≡ true = eq-eqb d.worker k (sym h) in cc) in
    ap (λ (x : WorkerState). x.legs)
    (get_or-set_other w.workers d.worker k (worker_after (get_or w.workers d.worker no_worker) d) no_worker other)

legs_step : (w : WorldState) (k : ℕ) (ds : List Worked) → IsAtOne w ds
    → (get_or (fold workers_by w.workers ds) k no_worker).legs
    ≡ fold legs_by (legs_at k w) (map (finished_by w.rows) (flat_map (jobs_of_worker k) ds))
legs_step w k [] i = refl
legs_step w k (d ∷ []) i = legs_of_one w k d i (d.worker == k) refl
legs_step w k (d ∷ (e ∷ ds)) i = absurd i

legs_over : (k : ℕ) (w : WorldState) (events : List Event) (history : List Happening) → Runs w events history
    → legs_at k (worlds_after w history) ≡ fold legs_by (legs_at k w) (finished_over k w history)
legs_over k w [] [] r = refl
legs_over k w [] (h ∷ history) r = absurd r
legs_over k w (e ∷ events) [] r = absurd r
legs_over k w (e ∷ events) (h ∷ history) r =
    legs_over k (world_after w h) events history r.1
    ∙ ap (λ (ls : List LegState). fold legs_by ls (finished_over k (world_after w h) history)) (legs_step w k h.worked (kind_of w e h r.0).worked)
    ∙ sym (fold-append legs_by (legs_at k w) (finished_at k w h) (finished_over k (world_after w h) history))

-- the leg at a place
leg_at_place : (legs : List LegState) (jobs : List Finished) (place : ℕ) (s : LegState) → slice_get legs place ≡ Some s
    → slice_get (fold legs_by legs jobs) place ≡ Some (fold leg_by s jobs)
leg_at_place legs [] place s f = f
leg_at_place legs (j ∷ jobs) place s f =
    leg_at_place (legs_by legs j) jobs place (leg_by s j)
    (slice_get-map (leg_after j.rows j.job) legs place ∙ ap (option_map (leg_after j.rows j.job)) f)

-- ---- one job

-- what a leg makes of these packets, whatever comes after them
record Goes (first : List Taken) (s now : LegState) : Type 0 where
  number : now.number ≡ s.number
  link : now.link ≡ s.link
  cname : now.cname ≡ s.cname
  capacity : now.kept.capacity ≡ s.kept.capacity
  numbers : (rest : List Taken) → held_after s.numbers (map incoming_packet (first ++ rest)) ≡ held_after now.numbers (map incoming_packet rest)
  kept : (rest : List Taken) → kept_in_turn s.kept.capacity s.kept.items (sent_on s.link s.numbers (first ++ rest))
      ≡ kept_in_turn s.kept.capacity now.kept.items (sent_on s.link now.numbers rest)

-- nothing was taken
goes_none : (s now : LegState) → now.number ≡ s.number → now.link ≡ s.link → now.cname ≡ s.cname → now.numbers ≡ s.numbers → now.kept ≡ s.kept → Goes [] s now
goes_none s now n l m h k = record {
  number = n;
  link = l;
  cname = m;
  capacity = ap (λ (x : Kept (List ℕ)). x.capacity) k;
  numbers = λ rest. ap (λ (x : Held). held_after x (map incoming_packet rest)) (sym h);
  kept = λ rest. ap (λ (x : Held). kept_in_turn s.kept.capacity s.kept.items (sent_on s.link x rest)) (sym h)
      ∙ ap (λ (x : Kept (List ℕ)). kept_in_turn s.kept.capacity x.items (sent_on s.link now.numbers rest)) (sym k);
}

-- a packet was
goes_packet : (rows : List Row) (bytes : List ℕ) (s : LegState) (answer : Result ℕ Cause) → answer_on rows bytes s ≡ answer
    → Goes (record { turn = (row_of rows s).turn; bytes = bytes } ∷ []) s (packet_after rows bytes s answer)
goes_packet rows bytes s (Ok number) e =
    let turn : ℕ = (row_of rows s).turn in
    let seq : ℕ = sequence_number bytes in
    let t : Taken = record { turn = turn; bytes = bytes } in
    record {
      number = refl;
      link = refl;
      cname = refl;
      capacity = refl;
      numbers = λ rest. ap (λ (x : Result ℕ Cause). held_after (held_with s.numbers turn seq x) (map incoming_packet rest)) e;
      kept = λ rest. ap (λ (x : Result ℕ Cause). kept_in_turn s.kept.capacity s.kept.items (sent_as s.link t x ++ sent_on s.link (held_with s.numbers turn seq x) rest)) e;
    }
goes_packet rows bytes s (Err cause) e =
    let turn : ℕ = (row_of rows s).turn in
    let seq : ℕ = sequence_number bytes in
    let t : Taken = record { turn = turn; bytes = bytes } in
    record {
      number = refl;
      link = refl;
      cname = refl;
      capacity = refl;
      numbers = λ rest. ap (λ (x : Result ℕ Cause). held_after (held_with s.numbers turn seq x) (map incoming_packet rest)) e;
      kept = λ rest. ap (λ (x : Result ℕ Cause). kept_in_turn s.kept.capacity s.kept.items (sent_as s.link t x ++ sent_on s.link (held_with s.numbers turn seq x) rest)) e;
    }

goes_if : (rows : List Row) (bytes : List ℕ) (s : LegState) (b : Bool)
    → Goes (if b then record { turn = (row_of rows s).turn; bytes = bytes } ∷ [] else []) s
    (if b then packet_after rows bytes s (answer_on rows bytes s) else s)
goes_if rows bytes s true = goes_packet rows bytes s (answer_on rows bytes s) refl
goes_if rows bytes s false = goes_none s s refl refl refl refl refl

-- a resent packet changes counts alone
resent_all : (s now : LegState) (seqs : List ℕ) → now.number ≡ s.number → now.link ≡ s.link → now.cname ≡ s.cname → now.numbers ≡ s.numbers
    → now.kept ≡ s.kept
    → Goes [] s (fold (λ t seq. resent t (last_kept_with t.kept.items seq)) now seqs)
resent_all s now [] n l m h k = goes_none s now n l m h k
resent_all s now (seq ∷ seqs) n l m h k =
    step (last_kept_with now.kept.items seq) (resent_all s now seqs n l m h k) (λ bytes. resent_all s (resent now (Some bytes)) seqs n l m h k)
  where
    step : (found : Option (List ℕ)) → Goes [] s (fold (λ t q. resent t (last_kept_with t.kept.items q)) now seqs)
        → ((bytes : List ℕ) → Goes [] s (fold (λ t q. resent t (last_kept_with t.kept.items q)) (resent now (Some bytes)) seqs))
        → Goes [] s (fold (λ t q. resent t (last_kept_with t.kept.items q)) (resent now found) seqs)
    step None missed again = missed
    step (Some bytes) missed again = again bytes

resend_if : (s : LegState) (seqs : List ℕ) (b : Bool)
    → Goes [] s (if b then fold (λ t seq. resent t (last_kept_with t.kept.items seq)) s seqs else s)
resend_if s seqs true = resent_all s s seqs refl refl refl refl refl
resend_if s seqs false = goes_none s s refl refl refl refl refl

goes : (rows : List Row) (job : Job) (s : LegState) → Goes (packets_taken_by s.number s.link rows job) s (leg_after rows job s)
goes rows (Packet publisher bytes) s = goes_if rows bytes s (takes rows publisher bytes s)
goes rows (Resend leg stay nack) s = resend_if s (lost_numbers nack) (stands rows leg stay s)
goes rows (Report leg stay sr) s = goes_none s s refl refl refl refl refl
goes rows (Goodbye leg) s = goes_none s s refl refl refl refl refl
goes rows (Request leg stay word) s = goes_none s s refl refl refl refl refl
goes rows (Pli leg moment) s = goes_none s s refl refl refl refl refl

-- ---- one job after the other

taken_none : (s : LegState) → HasTaken [] s s
taken_none s = record { number = refl; link = refl; cname = refl; numbers = refl; capacity = refl; kept = refl }

taken_more : (first rest : List Taken) (s now new : LegState) → Goes first s now → HasTaken rest now new → HasTaken (first ++ rest) s new
taken_more first rest s now new g h = record {
  number = h.number ∙ g.number;
  link = h.link ∙ g.link;
  cname = h.cname ∙ g.cname;
  numbers = h.numbers ∙ sym (g.numbers rest);
  capacity = h.capacity ∙ g.capacity;
  kept = h.kept
      ∙ ap (λ (c : ℕ). kept_in_turn c now.kept.items (sent_on now.link now.numbers rest)) g.capacity
      ∙ ap (λ (l : LegSettings). kept_in_turn s.kept.capacity now.kept.items (sent_on l now.numbers rest)) g.link
      ∙ sym (g.kept rest);
}

taken_all : (jobs : List Finished) (s : LegState) → HasTaken (taken_on s.number s.link jobs) s (fold leg_by s jobs)
taken_all [] s = taken_none s
taken_all (j ∷ jobs) s =
    let now : LegState = leg_by s j in
    let g = goes j.rows j.job s in
    let rest : taken_on now.number now.link jobs ≡ taken_on s.number s.link jobs =
    ap (λ (n : ℕ). taken_on n now.link jobs) g.number ∙ ap (λ (l : LegSettings). taken_on s.number l jobs) g.link in
    taken_more (packets_taken_by s.number s.link j.rows j.job) (taken_on s.number s.link jobs) s now (fold leg_by now jobs) g
    (subst (λ (ts : List Taken). HasTaken ts now (fold leg_by now jobs)) rest (taken_all jobs now))

pub legs_by_history : (w : WorldState) (events : List Event) (history : List Happening) → Runs w events history
    → (k place : ℕ) (s : LegState) → slice_get (legs_at k w) place ≡ Some s
    → AtLeg (HasTaken (taken_on s.number s.link (finished_over k w history)) s) (legs_at k (worlds_after w history)) place
legs_by_history w events history r k place s f =
    let jobs : List Finished = finished_over k w history in
    record {
      leg = fold leg_by s jobs;
      there = ap (λ (ls : List LegState). slice_get ls place) (legs_over k w events history r) ∙ leg_at_place (legs_at k w) jobs place s f;
      is = taken_all jobs s;
    }

-- ---- from a new world

record IsNewLeg (t : LinkTable) (ring : ℕ) (s : LegState) : Type 0 where
  cname : s.cname ≡ cname_of t s.link.publisher
  numbers : s.numbers ≡ new_leg s.link.first_seq
  capacity : s.kept.capacity ≡ ring
  kept : s.kept.items ≡ []

owned_new : (t : LinkTable) (ring k : ℕ) (es : List (ℕ × LegSettings)) → AllByRecursion (IsNewLeg t ring) (owned_by t ring k es)
owned_new t ring k [] = tt
owned_new t ring k (e ∷ es) = step (worker_of t e.1 == k) (owned_new t ring k es)
  where
    step : (b : Bool) → AllByRecursion (IsNewLeg t ring) (owned_by t ring k es)
        → AllByRecursion (IsNewLeg t ring) (if b then new_leg_of t ring e ∷ owned_by t ring k es else owned_by t ring k es)
    step true rest = (record { cname = refl; numbers = refl; capacity = refl; kept = refl }, rest)
    step false rest = rest

each_at : (P : LegState → Type 0) (xs : List LegState) (place : ℕ) (s : LegState) → AllByRecursion P xs → slice_get xs place ≡ Some s → P s
each_at P [] place s all f = absurd (cc)
each_at P (x ∷ xs) zero s all f = subst P (same_Some x s f) all.0
each_at P (x ∷ xs) (suc place) s all f = each_at P xs place s all.1 f

taken_from_new : (t : LinkTable) (ring : ℕ) (taken : List Taken) (s now : LegState) → IsNewLeg t ring s → HasTaken taken s now
    → HasTakenAll ring s.number s.link (cname_of t s.link.publisher) taken now
taken_from_new t ring taken s now new h = record {
  same_number = h.number;
  link = h.link;
  cname = h.cname ∙ new.cname;
  numbers = h.numbers ∙ ap (λ (x : Held). held_after x (map incoming_packet taken)) new.numbers;
  kept = h.kept
      ∙ ap (λ (c : ℕ). kept_in_turn c s.kept.items (sent_on s.link s.numbers taken)) new.capacity
      ∙ ap (λ (items : List (Sent (List ℕ))). kept_in_turn ring items (sent_on s.link s.numbers taken)) new.kept
      ∙ kept_from_none ring (sent_on s.link s.numbers taken)
      ∙ ap (λ (x : Held). keep_last ring (sent_on s.link x taken)) new.numbers;
}

pub new_legs_by_history : (c : Configuration) (w : WorldState) (events : List Event) (history : List Happening)
    → IsNewWorld c w → Runs w events history
    → (k place : ℕ) (s : LegState) → k < c.workers → slice_get (new_legs (table_of c) c.ring k) place ≡ Some s
    → AtLeg
    (HasTakenAll c.ring s.number s.link (cname_of (table_of c) s.link.publisher) (taken_on s.number s.link (finished_over k w history)))
    (legs_at k (worlds_after w history)) place
new_legs_by_history c w events history new r k place s low f =
    let worker = slice_get-some w.workers k (omega (arith, low, new.worker_count)) in
    let is : legs_at k w ≡ new_legs (table_of c) c.ring k =
    ap (λ (x : WorkerState). x.legs) (get_or_from_slice_get w.workers k worker.0 no_worker worker.1) ∙ (new.workers k worker.0 worker.1).legs in
    let last = legs_by_history w events history r k place s (ap (λ (ls : List LegState). slice_get ls place) is ∙ f) in
    let fresh : IsNewLeg (table_of c) c.ring s =
    each_at (IsNewLeg (table_of c) c.ring) (new_legs (table_of c) c.ring k) place s (owned_new (table_of c) c.ring k (numbered_legs (table_of c))) f in
    record {
      leg = last.leg;
      there = last.there;
      is = taken_from_new (table_of c) c.ring (taken_on s.number s.link (finished_over k w history)) s last.leg fresh last.is;
    }
