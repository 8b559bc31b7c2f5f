-- What a plan gives out, and what the legs are once it is done.
use Rattle.std.proofs.Common.{◌≡◌, ℕ, ◌+◌, ◌<◌, ◌≤◌, Bool, true, false, List, [], ◌∷◌, ◌++◌, length, get_or, set, zero, suc, refl, sym, ap, ◌∙◌, arith, length-append, append_assoc}
use Rattle.std.proofs.lemmas.List.{map-append}
use Rattle.std.proofs.lemmas.List.Sums.{fold-append}
use Rattle.circular_buffer.proofs.Places.{slice_get-append_right}
use Rattle.std.specs.Prelude.{◌==◌, Option, None, Some, Result, Ok, Err, slice_get, map, fold, if◌then◌else◌}
use Rattle.std.specs.List.{flat_map, enumerate_from}
use Rattle.members.specs.declared.order.Row.{Row}
use Rattle.resend_ring.specs.Kept.{Kept, last_kept_with}
use Rattle.rewrite.specs.declared.skip.Skip.{Skip as Cause}
use Rattle.rtcp_feedback.specs.Nack.{lost_numbers}
use Rattle.events.specs.declared.job.Job.{Job}
use Rattle.events.specs.declared.job.Job.TheVariants as job
use Rattle.legs.specs.declared.leg.LegState.{LegState}
use Rattle.events.specs.declared.output.Out.{Out}
use Rattle.events.specs.declared.output.Out.TheVariants as out
use Rattle.legs.specs.declared.plan.Planned.{Planned}
use Rattle.legs.specs.Legs.{takes, stands, row_of, answer_on, leg_report_bytes, leg_goodbye_bytes, packet_outs, packet_after, resend_outs, resent, leg_datagrams, leg_after, job_datagrams, legs_after}
use Rattle.legs.specs.Plan.{plan_outs, changed_at, applied_one, legs_after_plan}
use Rattle.legs.specs.Planning.{packet_planned, resend_planned, resends, sent_alone, leg_plan, job_plan}

-- ---- a leg at a place

pub changed_behind : (front : List LegState) (n : ℕ) (s : LegState) (rest : List LegState) (change : LegState → LegState)
    → n ≡ length front → changed_at (front ++ s ∷ rest) n change ≡ front ++ change s ∷ rest
changed_behind [] n s rest change e = ap (λ (k : ℕ). changed_at (s ∷ rest) k change) e
changed_behind (t ∷ front) n s rest change e =
    ap (λ (k : ℕ). changed_at (t ∷ (front ++ s ∷ rest)) k change) e
    ∙ ap (λ (l : List LegState). t ∷ l) (changed_behind front (length front) s rest change refl)

pub changed_within : (legs : List LegState) (i : ℕ) (change : LegState → LegState) (d : LegState) → i < length legs
    → changed_at legs i change ≡ set legs i (change (get_or legs i d))
changed_within [] i change d h = absurd (omega arith)
changed_within (s ∷ legs) zero change d h = refl
changed_within (s ∷ legs) (suc i) change d h = ap (λ (l : List LegState). s ∷ l) (changed_within legs i change d (omega arith))

pub changed_past : (legs : List LegState) (i : ℕ) (change : LegState → LegState) → length legs ≤ i → changed_at legs i change ≡ legs
changed_past [] i change h = refl
changed_past (s ∷ legs) zero change h = absurd (omega arith)
changed_past (s ∷ legs) (suc i) change h = ap (λ (l : List LegState). s ∷ l) (changed_past legs i change (omega arith))

pub at_behind : (whole front : List LegState) (n : ℕ) (s : LegState) (rest : List LegState) → n ≡ length front
    → whole ≡ front ++ s ∷ rest → slice_get whole n ≡ Some s
at_behind whole front n s rest e is =
    ap (λ (l : List LegState). slice_get l n) is ∙ slice_get-append_right front (s ∷ rest) n 0 (omega arith)

count_before : (front : List LegState) (s : LegState) (n : ℕ) → n ≡ length front → n + 1 ≡ length (front ++ s ∷ [])
count_before front s n e = omega (arith, length-append front (s ∷ []))

-- ---- what it gives out

packet_out : (n turn : ℕ) (s : LegState) (bytes : List ℕ) (r : Result ℕ Cause) (b : Bool)
    → plan_outs (if b then packet_planned n s turn bytes r ∷ [] else []) ≡ (if b then packet_outs s bytes r else [])
packet_out n turn s bytes (Ok number) true = refl
packet_out n turn s bytes (Err cause) true = refl
packet_out n turn s bytes (Ok number) false = refl
packet_out n turn s bytes (Err cause) false = refl

again_out : (n seq : ℕ) (s : LegState) (r : Option (List ℕ)) → (resend_planned n s seq r).out ∷ [] ≡ resend_outs s seq r
again_out n seq s None = refl
again_out n seq s (Some bytes) = refl

resends_out : (n : ℕ) (s : LegState) (numbers : List ℕ)
    → plan_outs (resends n s numbers) ≡ flat_map (λ seq. resend_outs s seq (last_kept_with s.kept.items seq)) numbers
resends_out n s [] = refl
resends_out n s (seq ∷ numbers) =
    let here = again_out n seq s (last_kept_with s.kept.items seq) in
    let rest = resends_out n s numbers in
    cc

resend_out : (n : ℕ) (s : LegState) (numbers : List ℕ) (b : Bool)
    → plan_outs (if b then resends n s numbers else [])
    ≡ (if b then flat_map (λ seq. resend_outs s seq (last_kept_with s.kept.items seq)) numbers else [])
resend_out n s numbers true = resends_out n s numbers
resend_out n s numbers false = refl

report_out : (endpoint : ℕ) (bytes : List ℕ) (b : Bool)
    → plan_outs (if b then sent_alone endpoint bytes ∷ [] else []) ≡ (if b then out.Send endpoint bytes ∷ [] else [])
report_out endpoint bytes true = refl
report_out endpoint bytes false = refl

outs_here : (rows : List Row) (work : Job) (n : ℕ) (s : LegState) → plan_outs (leg_plan rows work (n, s)) ≡ leg_datagrams rows work s
outs_here rows (job.Packet publisher bytes) n s =
    packet_out n (row_of rows s).turn s bytes (answer_on rows bytes s) (takes rows publisher bytes s)
outs_here rows (job.Resend leg stay nack) n s = resend_out n s (lost_numbers nack) (stands rows leg stay s)
outs_here rows (job.Report leg stay sr) n s = report_out s.link.subscriber (leg_report_bytes s sr) (stands rows leg stay s)
outs_here rows (job.Goodbye leg) n s = report_out s.link.subscriber (leg_goodbye_bytes s) (s.number == leg)
outs_here rows (job.Request leg stay word) n s = refl
outs_here rows (job.Pli leg moment) n s = refl

outs_from : (rows : List Row) (work : Job) (n : ℕ) (rest : List LegState)
    → plan_outs (flat_map (leg_plan rows work) (enumerate_from n rest)) ≡ flat_map (leg_datagrams rows work) rest
outs_from rows work n [] = refl
outs_from rows work n (s ∷ rest) =
    let behind = flat_map (leg_plan rows work) (enumerate_from (n + 1) rest) in
    map-append (λ (p : Planned). p.out) (leg_plan rows work (n, s)) behind
    ∙ ap (λ (l : List Out). l ++ plan_outs behind) (outs_here rows work n s)
    ∙ ap (λ (l : List Out). leg_datagrams rows work s ++ l) (outs_from rows work (n + 1) rest)

-- the plan of a job gives out what the job does
pub plan_gives : (rows : List Row) (legs : List LegState) (work : Job)
    → plan_outs (job_plan rows legs work) ≡ job_datagrams rows legs work
plan_gives rows legs work = outs_from rows work 0 legs

-- ---- what the legs are then

packet_applied : (rows : List Row) (front : List LegState) (n : ℕ) (s : LegState) (rest : List LegState) (bytes : List ℕ)
    (r : Result ℕ Cause) (b : Bool) → n ≡ length front
    → legs_after_plan (front ++ s ∷ rest) (if b then packet_planned n s (row_of rows s).turn bytes r ∷ [] else [])
    ≡ front ++ (if b then packet_after rows bytes s r else s) ∷ rest
packet_applied rows front n s rest bytes (Ok number) true e = changed_behind front n s rest _ e
packet_applied rows front n s rest bytes (Err cause) true e = refl
packet_applied rows front n s rest bytes (Ok number) false e = refl
packet_applied rows front n s rest bytes (Err cause) false e = refl

again_applied : (front : List LegState) (n seq : ℕ) (s t : LegState) (rest : List LegState) (r : Option (List ℕ)) → n ≡ length front
    → applied_one (front ++ t ∷ rest) (resend_planned n s seq r) ≡ front ++ resent t r ∷ rest
again_applied front n seq s t rest None e = refl
again_applied front n seq s t rest (Some bytes) e = changed_behind front n t rest _ e

kept_same : (t : LegState) (r : Option (List ℕ)) → (resent t r).kept ≡ t.kept
kept_same t None = refl
kept_same t (Some bytes) = refl

resends_applied : (front : List LegState) (n : ℕ) (s t : LegState) (rest : List LegState) (numbers : List ℕ) → n ≡ length front
    → t.kept ≡ s.kept
    → legs_after_plan (front ++ t ∷ rest) (resends n s numbers)
    ≡ front ++ fold (λ u seq. resent u (last_kept_with u.kept.items seq)) t numbers ∷ rest
resends_applied front n s t rest [] e same = refl
resends_applied front n s t rest (seq ∷ numbers) e same =
    let r = last_kept_with s.kept.items seq in
    let here : applied_one (front ++ t ∷ rest) (resend_planned n s seq r) ≡ front ++ resent t r ∷ rest =
    again_applied front n seq s t rest r e in
    let found : r ≡ last_kept_with t.kept.items seq = ap (λ (k : Kept (List ℕ)). last_kept_with k.items seq) (sym same) in
    let more = resends_applied front n s (resent t r) rest numbers e (kept_same t r ∙ same) in
    ap (λ (l : List LegState). legs_after_plan l (resends n s numbers)) here ∙ more
    ∙ ap (λ (o : Option (List ℕ)). front ++ fold (λ u q. resent u (last_kept_with u.kept.items q)) (resent t o) numbers ∷ rest) found

resend_applied : (front : List LegState) (n : ℕ) (s : LegState) (rest : List LegState) (numbers : List ℕ) (b : Bool) → n ≡ length front
    → legs_after_plan (front ++ s ∷ rest) (if b then resends n s numbers else [])
    ≡ front ++ (if b then fold (λ u seq. resent u (last_kept_with u.kept.items seq)) s numbers else s) ∷ rest
resend_applied front n s rest numbers true e = resends_applied front n s s rest numbers e refl
resend_applied front n s rest numbers false e = refl

report_applied : (legs : List LegState) (endpoint : ℕ) (bytes : List ℕ) (b : Bool)
    → legs_after_plan legs (if b then sent_alone endpoint bytes ∷ [] else []) ≡ legs
report_applied legs endpoint bytes true = refl
report_applied legs endpoint bytes false = refl

applied_here : (rows : List Row) (work : Job) (front : List LegState) (n : ℕ) (s : LegState) (rest : List LegState)
    → n ≡ length front
    → legs_after_plan (front ++ s ∷ rest) (leg_plan rows work (n, s)) ≡ front ++ leg_after rows work s ∷ rest
applied_here rows (job.Packet publisher bytes) front n s rest e =
    packet_applied rows front n s rest bytes (answer_on rows bytes s) (takes rows publisher bytes s) e
applied_here rows (job.Resend leg stay nack) front n s rest e =
    resend_applied front n s rest (lost_numbers nack) (stands rows leg stay s) e
applied_here rows (job.Report leg stay sr) front n s rest e =
    report_applied (front ++ s ∷ rest) s.link.subscriber (leg_report_bytes s sr) (stands rows leg stay s)
applied_here rows (job.Goodbye leg) front n s rest e =
    report_applied (front ++ s ∷ rest) s.link.subscriber (leg_goodbye_bytes s) (s.number == leg)
applied_here rows (job.Request leg stay word) front n s rest e = refl
applied_here rows (job.Pli leg moment) front n s rest e = refl

applied_from : (rows : List Row) (work : Job) (front : List LegState) (n : ℕ) (rest : List LegState) → n ≡ length front
    → legs_after_plan (front ++ rest) (flat_map (leg_plan rows work) (enumerate_from n rest)) ≡ front ++ map (leg_after rows work) rest
applied_from rows work front n [] e = refl
applied_from rows work front n (s ∷ rest) e =
    let behind = flat_map (leg_plan rows work) (enumerate_from (n + 1) rest) in
    let t = leg_after rows work s in
    let split = fold-append applied_one (front ++ s ∷ rest) (leg_plan rows work (n, s)) behind in
    let here = ap (λ (l : List LegState). legs_after_plan l behind) (applied_here rows work front n s rest e) in
    let moved = ap (λ (l : List LegState). legs_after_plan l behind) (sym (append_assoc front (t ∷ []) rest)) in
    let more = applied_from rows work (front ++ t ∷ []) (n + 1) rest (count_before front t n e) in
    split ∙ here ∙ moved ∙ more ∙ append_assoc front (t ∷ []) (map (leg_after rows work) rest)

-- the plan of a job makes of the legs what the job makes of them
pub plan_makes : (rows : List Row) (legs : List LegState) (work : Job)
    → legs_after_plan legs (job_plan rows legs work) ≡ legs_after rows legs work
plan_makes rows legs work = applied_from rows work [] 0 legs refl
