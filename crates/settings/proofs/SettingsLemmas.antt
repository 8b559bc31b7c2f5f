-- Checks one after another.
use Rattle.std.proofs.Common.{◌≡◌, ℕ, zero, suc, subst, add-one, eq-eqb, ◌+◌, ◌-◌, ◌<◌, ◌≤◌, List, [], ◌∷◌, ◌++◌, length, drop, get_or, refl, sym, ap, ◌∙◌, arith, length-append, append_assoc, Some, None, Bool, true, false, cond}
use Rattle.std.specs.Prelude.{◌==◌, flat_map, not, Option, ◌&&◌, ◌||◌, map}
use Rattle.std.specs.Prelude.{All, AllPairs}
use Rattle.std.proofs.lemmas.List.Elements.{All-nil, All-cons}
use Rattle.std.proofs.lemmas.Bool.Decides.{nat_tests}
use Rattle.std.specs.List.{enumerate_from, list_any}
use Rattle.std.proofs.lemmas.List.{drop_more, length-map, length-take-le, get_or_append_left, get_or-append_right, get_or-map, get_or-take}
use Rattle.std.proofs.lemmas.List.Kept.{AllPairs-cons}
use Rattle.std.proofs.lemmas.List.Folds.{list_any_at}
use Rattle.std.proofs.lemmas.Simd.{map-map}
use Rattle.tmmbr_tuple.specs.declared.ssrc.Ssrc.{Ssrc}
use Rattle.settings.specs.declared.settings.LegSettings.{LegSettings}
use Rattle.settings.specs.declared.parts.Parts.{Parts}
use Rattle.settings.specs.declared.fault.SettingsFault.{SettingsFault}
use Rattle.settings.specs.Settings.{Check, check, checks, top_checks, endpoint_checks, leg_checks, first_fault, are_distinct, sources, number_or_zero, number_within, is_cname, is_cname_or_none, name_of, own_name, said_name, said_names, Additions, ssrc_of, leg_of, number_below, or_one, or_zero, is_same, has_pair, is_publisher, AreNumbersOf, IsInRange, IsLegAmong, HasOtherEnds}
use Rattle.settings.specs.declared.checks.Numbers.{Numbers}
use Rattle.settings.specs.declared.fault.SettingsFault.TheVariants.{SameSsrc}
use Rattle.rtcp_compound.specs.declared.writer.TheConstants.{CNAME_LIMIT}
use Rattle.settings.specs.declared.limits.TheConstants.{SSRCS, MAX_WORKERS, MAX_RING, LEAST_HISTORY, MAX_HISTORY, MAX_PERIOD_MS, MAX_REPORT_SLOTS, MAX_ENDPOINTS, MAX_LEGS}
use Rattle.settings.specs.declared.parts.LegParts.{LegParts}
use Rattle.std.specs.Prelude.{ℤ, pos, negsuc, nat_le, nat_lt, ◌≢◌, is_some, take, unwrap_or}

first_passes : (cs ds : List Check) → first_fault cs ≡ None → first_fault (cs ++ ds) ≡ first_fault ds
first_passes [] ds passes = refl
first_passes (c ∷ cs) ds passes = step c.passes (first_passes cs ds) passes
  where
    step : (b : Bool) → (first_fault cs ≡ None → first_fault (cs ++ ds) ≡ first_fault ds) → cond b (first_fault cs) (Some c.fault) ≡ None
        → cond b (first_fault (cs ++ ds)) (Some c.fault) ≡ first_fault ds
    step true rest p = rest p
    step false rest p = absurd (cc)

first_fails : (cs ds : List Check) (f : SettingsFault) → first_fault cs ≡ Some f → first_fault (cs ++ ds) ≡ Some f
first_fails [] ds f fails = absurd (cc)
first_fails (c ∷ cs) ds f fails = step c.passes (first_fails cs ds f) fails
  where
    step : (b : Bool) → (first_fault cs ≡ Some f → first_fault (cs ++ ds) ≡ Some f) → cond b (first_fault cs) (Some c.fault) ≡ Some f
        → cond b (first_fault (cs ++ ds)) (Some c.fault) ≡ Some f
    step true rest p = rest p
    step false rest p = p

-- the checks of what stands from a place on
abbrev pub checks_from : {X : Type 0} → (ℕ × X → List Check) → List X → ℕ → Option SettingsFault
checks_from f xs k = first_fault (flat_map f (enumerate_from k (drop k xs)))

pub checks_more : {X : Type 0} (f : ℕ × X → List Check) (xs : List X) (k : ℕ) → k < length xs
    → ((d : X) → first_fault (f (k, get_or xs k d)) ≡ None) → checks_from f xs k ≡ checks_from f xs (k + 1)
checks_more f [] k below passes = absurd (omega arith)
checks_more f (x ∷ xs) k below passes =
    ap (λ ys. first_fault (flat_map f (enumerate_from k ys))) (drop_more (x ∷ xs) k x below)
    ∙ first_passes (f (k, get_or (x ∷ xs) k x)) (flat_map f (enumerate_from (k + 1) (drop (k + 1) (x ∷ xs)))) (passes x)

pub checks_here : {X : Type 0} (f : ℕ × X → List Check) (xs : List X) (k : ℕ) (fault : SettingsFault) → k < length xs
    → ((d : X) → first_fault (f (k, get_or xs k d)) ≡ Some fault) → checks_from f xs k ≡ Some fault
checks_here f [] k fault below fails = absurd (omega arith)
checks_here f (x ∷ xs) k fault below fails =
    ap (λ ys. first_fault (flat_map f (enumerate_from k ys))) (drop_more (x ∷ xs) k x below)
    ∙ first_fails (f (k, get_or (x ∷ xs) k x)) (flat_map f (enumerate_from (k + 1) (drop (k + 1) (x ∷ xs)))) fault (fails x)

-- the same of the element that stands there
pub item_passes : {X : Type 0} (f : ℕ × X → List Check) (xs : List X) (k : ℕ) (x : X) → k < length xs → x ≡ get_or xs k x
    → first_fault (f (k, x)) ≡ None → checks_from f xs k ≡ checks_from f xs (k + 1)
item_passes f xs k x below is passes =
    let here = ap (λ y. first_fault (f (k, y))) (sym is) ∙ passes in
    ap (λ ys. first_fault (flat_map f (enumerate_from k ys))) (drop_more xs k x below)
    ∙ first_passes (f (k, get_or xs k x)) (flat_map f (enumerate_from (k + 1) (drop (k + 1) xs))) here

pub item_fails : {X : Type 0} (f : ℕ × X → List Check) (xs : List X) (k : ℕ) (x : X) (fault : SettingsFault) → k < length xs
    → x ≡ get_or xs k x → first_fault (f (k, x)) ≡ Some fault → checks_from f xs k ≡ Some fault
item_fails f xs k x fault below is fails =
    let here = ap (λ y. first_fault (f (k, y))) (sym is) ∙ fails in
    ap (λ ys. first_fault (flat_map f (enumerate_from k ys))) (drop_more xs k x below)
    ∙ first_fails (f (k, get_or xs k x)) (flat_map f (enumerate_from (k + 1) (drop (k + 1) xs))) fault here

pub length-sources : (p : Parts) → length (sources p) ≡ 1 + length p.endpoints.items + length p.legs.items
unfolding sources
length-sources p = simp (length-append, length-map) (omega arith)

pub any_more : (y : ℕ) (xs : List ℕ) (k : ℕ) → k < length xs → ¬ (get_or xs k 0 ≡ y)
    → list_any (λ x. x == y) (drop k xs) ≡ list_any (λ x. x == y) (drop (k + 1) xs)
any_more y xs k below other =
    ap (list_any (λ x. x == y)) (drop_more xs k 0 below) ∙ step (get_or xs k 0 == y) (grind (arith, nat_tests))
  where
    step : (b : Bool) → b ≡ false → b || list_any (λ x. x == y) (drop (k + 1) xs) ≡ list_any (λ x. x == y) (drop (k + 1) xs)
    step true p = absurd (cc)
    step false p = refl

pub any_here : (y : ℕ) (xs : List ℕ) (k : ℕ) → k < length xs → get_or xs k 0 ≡ y → list_any (λ x. x == y) (drop k xs) ≡ true
any_here y xs k below same =
    ap (list_any (λ x. x == y)) (drop_more xs k 0 below) ∙ step (get_or xs k 0 == y) (grind (arith, nat_tests))
  where
    step : (b : Bool) → b ≡ true → b || list_any (λ x. x == y) (drop (k + 1) xs) ≡ true
    step true p = refl
    step false p = absurd (cc)

pub distinct_more : (xs : List ℕ) (k : ℕ) → k < length xs → true ≡ not (list_any (λ y. y == get_or xs k 0) (drop (k + 1) xs))
    → are_distinct (drop k xs) ≡ are_distinct (drop (k + 1) xs)
distinct_more xs k below single = ap are_distinct (drop_more xs k 0 below) ∙ rw (← single) refl

pub distinct_fails : (xs : List ℕ) (k : ℕ) → k < length xs → false ≡ not (list_any (λ y. y == get_or xs k 0) (drop (k + 1) xs))
    → are_distinct (drop k xs) ≡ false
distinct_fails xs k below twice = ap are_distinct (drop_more xs k 0 below) ∙ rw (← twice) refl

pub source_unit : (p : Parts) → get_or (sources p) 0 0 ≡ number_or_zero p.unit_ssrc SSRCS
unfolding sources
source_unit p = refl

pub source_endpoint : (p : Parts) (k : ℕ) (d : Option ℤ) → k < length p.endpoints.items
    → get_or (sources p) (suc k) 0 ≡ number_or_zero (get_or p.endpoints.items k d) SSRCS
unfolding sources
source_endpoint p k d below =
    get_or_append_left (map (λ (e : Option ℤ). number_or_zero e SSRCS) p.endpoints.items) (map (λ l. number_or_zero l.out_ssrc SSRCS) p.legs.items) 0 k
    (rw length-map below)
    ∙ get_or-map (λ (e : Option ℤ). number_or_zero e SSRCS) p.endpoints.items k d 0 below

pub source_leg : (p : Parts) (k : ℕ) (d : LegParts) → length p.endpoints.items ≤ k → k < length p.endpoints.items + length p.legs.items
    → get_or (sources p) (suc k) 0 ≡ number_or_zero (get_or p.legs.items (k - length p.endpoints.items) d).out_ssrc SSRCS
unfolding sources
source_leg p k d above below =
    get_or-append_right (map (λ (e : Option ℤ). number_or_zero e SSRCS) p.endpoints.items) (map (λ (l : LegParts). number_or_zero l.out_ssrc SSRCS) p.legs.items)
    (length p.endpoints.items) k 0 (length-map p.endpoints.items (λ (e : Option ℤ). number_or_zero e SSRCS)) above
    ∙ get_or-map (λ (l : LegParts). number_or_zero l.out_ssrc SSRCS) p.legs.items (k - length p.endpoints.items) d 0 (omega arith)

-- ---- all checks

abbrev endpoints_part : Parts → Additions → List Check
endpoints_part p x = flat_map (endpoint_checks x) (enumerate_from 0 p.endpoints.items)

abbrev legs_part : Parts → List Check
legs_part p = flat_map (leg_checks p) (enumerate_from 0 p.legs.items)

abbrev sources_part : Parts → List Check
sources_part p = check (are_distinct (sources p)) SameSsrc ∷ []

checks-is : (p : Parts) (x : Additions) → first_fault (checks p x) ≡ first_fault (top_checks p x ++ (endpoints_part p x ++ (legs_part p ++ sources_part p)))
unfolding checks
checks-is p x =
    let same : checks p x ≡ top_checks p x ++ (endpoints_part p x ++ (legs_part p ++ sources_part p)) = simp append_assoc in
    ap first_fault same

pub top_fails : (p : Parts) (x : Additions) (f : SettingsFault) → first_fault (top_checks p x) ≡ Some f → first_fault (checks p x) ≡ Some f
top_fails p x f top = checks-is p x ∙ first_fails (top_checks p x) (endpoints_part p x ++ (legs_part p ++ sources_part p)) f top

past_top : (p : Parts) (x : Additions) → first_fault (top_checks p x) ≡ None → first_fault (checks p x) ≡ first_fault (endpoints_part p x ++ (legs_part p ++ sources_part p))
past_top p x top = checks-is p x ∙ first_passes (top_checks p x) (endpoints_part p x ++ (legs_part p ++ sources_part p)) top

pub endpoints_fail : (p : Parts) (x : Additions) (f : SettingsFault) → first_fault (top_checks p x) ≡ None → first_fault (endpoints_part p x) ≡ Some f
    → first_fault (checks p x) ≡ Some f
endpoints_fail p x f top fails = past_top p x top ∙ first_fails (endpoints_part p x) (legs_part p ++ sources_part p) f fails

past_endpoints : (p : Parts) (x : Additions) → first_fault (top_checks p x) ≡ None → first_fault (endpoints_part p x) ≡ None
    → first_fault (checks p x) ≡ first_fault (legs_part p ++ sources_part p)
past_endpoints p x top endpoints = past_top p x top ∙ first_passes (endpoints_part p x) (legs_part p ++ sources_part p) endpoints

pub legs_fail : (p : Parts) (x : Additions) (f : SettingsFault) → first_fault (top_checks p x) ≡ None → first_fault (endpoints_part p x) ≡ None
    → first_fault (legs_part p) ≡ Some f → first_fault (checks p x) ≡ Some f
legs_fail p x f top endpoints fails = past_endpoints p x top endpoints ∙ first_fails (legs_part p) (sources_part p) f fails

past_legs : (p : Parts) (x : Additions) → first_fault (top_checks p x) ≡ None → first_fault (endpoints_part p x) ≡ None → first_fault (legs_part p) ≡ None
    → first_fault (checks p x) ≡ first_fault (sources_part p)
past_legs p x top endpoints legs = past_endpoints p x top endpoints ∙ first_passes (legs_part p) (sources_part p) legs

pub sources_fail : (p : Parts) (x : Additions) → first_fault (top_checks p x) ≡ None → first_fault (endpoints_part p x) ≡ None → first_fault (legs_part p) ≡ None
    → are_distinct (sources p) ≡ false → first_fault (checks p x) ≡ Some SameSsrc
sources_fail p x top endpoints legs twice = past_legs p x top endpoints legs ∙ rw twice refl

pub all_pass : (p : Parts) (x : Additions) → first_fault (top_checks p x) ≡ None → first_fault (endpoints_part p x) ≡ None → first_fault (legs_part p) ≡ None
    → are_distinct (sources p) ≡ true → first_fault (checks p x) ≡ None
all_pass p x top endpoints legs distinct = past_legs p x top endpoints legs ∙ rw distinct refl

-- ---- ranges

pub within_bounds : (v : Option ℤ) (a b n : ℕ) → number_within v a b ≡ Some n → (a ≤ n) × (n ≤ b)
within_bounds None a b n is = absurd (cc)
within_bounds (Some (pos m)) a b n is = bounds m a b n is
  where
    bounds : (m a b n : ℕ) → cond (nat_le a m && nat_le m b) (Some m) None ≡ Some n → (a ≤ n) × (n ≤ b)
    bounds m a b n is = grind (arith, nat_tests)
within_bounds (Some (negsuc m)) a b n is = absurd (cc)

-- no fault: each check passes
each_passes : (cs : List Check) → first_fault cs ≡ None → All (λ c. c.passes ≡ true) cs
each_passes [] passes = All-nil (λ c. c.passes ≡ true)
each_passes (c ∷ cs) passes = step c.passes refl (each_passes cs) passes
  where
    step : (b : Bool) → c.passes ≡ b → (first_fault cs ≡ None → All (λ (c : Check). c.passes ≡ true) cs)
        → cond b (first_fault cs) (Some c.fault) ≡ None → All (λ (c : Check). c.passes ≡ true) (c ∷ cs)
    step true same rest p = All-cons (λ (c : Check). c.passes ≡ true) c cs same (rest p)
    step false same rest p = absurd (cc)

record TopPasses (p : Parts) : Type 0 where
  cname : is_cname (name_of p.cname) ≡ true
  endpoint : (nat_le 1 (length p.endpoints.items) && nat_le (length p.endpoints.items) MAX_ENDPOINTS) ≡ true
  leg : nat_le (length p.legs.items) MAX_LEGS ≡ true

top_passes : (p : Parts) (x : Additions) → first_fault (top_checks p x) ≡ None → TopPasses p
unfolding top_checks
top_passes p x passes =
    let each = each_passes (top_checks p x) passes in
    let any : Check = check true SameSsrc in
    record {
      cname = each 0 any (omega arith);
      endpoint = each 1 any (omega arith);
      leg = each 3 any (omega arith);
    }

pub endpoint_bounds : (p : Parts) (x : Additions) → first_fault (top_checks p x) ≡ None → (1 ≤ length p.endpoints.items) × (length p.endpoints.items ≤ MAX_ENDPOINTS)
endpoint_bounds p x top = let e = (top_passes p x top).endpoint in grind (arith, nat_tests)

pub leg_bound : (p : Parts) (x : Additions) → first_fault (top_checks p x) ≡ None → length p.legs.items ≤ MAX_LEGS
leg_bound p x top = let e = (top_passes p x top).leg in grind (arith, nat_tests)

name_bounds : (name : List ℕ) → is_cname name ≡ true → (1 ≤ length name) × (length name ≤ CNAME_LIMIT)
name_bounds name is = grind (arith, nat_tests)

-- no fault in two lists of checks one after the other: none in either
none_split : (xs ys : List Check) → first_fault (xs ++ ys) ≡ None → (first_fault xs ≡ None) × (first_fault ys ≡ None)
none_split [] ys passes = (refl, passes)
none_split (c ∷ cs) ys passes = step c.passes (none_split cs ys) passes
  where
    step : (b : Bool) → (first_fault (cs ++ ys) ≡ None → (first_fault cs ≡ None) × (first_fault ys ≡ None))
        → cond b (first_fault (cs ++ ys)) (Some c.fault) ≡ None → (cond b (first_fault cs) (Some c.fault) ≡ None) × (first_fault ys ≡ None)
    step true rest p = rest p
    step false rest p = absurd (cc)

pub top_of : (p : Parts) (x : Additions) → first_fault (checks p x) ≡ None → first_fault (top_checks p x) ≡ None
top_of p x passes = (none_split (top_checks p x) (endpoints_part p x ++ (legs_part p ++ sources_part p)) (sym (checks-is p x) ∙ passes)).0

legs_of : (p : Parts) (x : Additions) → first_fault (checks p x) ≡ None → first_fault (legs_part p) ≡ None
legs_of p x passes =
    let behind = (none_split (top_checks p x) (endpoints_part p x ++ (legs_part p ++ sources_part p)) (sym (checks-is p x) ∙ passes)).1 in
    let last = (none_split (endpoints_part p x) (legs_part p ++ sources_part p) behind).1 in
    (none_split (legs_part p) (sources_part p) last).0

endpoints_of : (p : Parts) (x : Additions) → first_fault (checks p x) ≡ None → first_fault (endpoints_part p x) ≡ None
endpoints_of p x passes =
    let behind = (none_split (top_checks p x) (endpoints_part p x ++ (legs_part p ++ sources_part p)) (sym (checks-is p x) ∙ passes)).1 in
    (none_split (endpoints_part p x) (legs_part p ++ sources_part p) behind).0

-- if the checks of all pass, so do those of the one at this place
passes_at : {X : Type 0} (f : ℕ × X → List Check) (xs : List X) (k : ℕ) (d : X) → k < length xs → checks_from f xs k ≡ None
    → (first_fault (f (k, get_or xs k d)) ≡ None) × (checks_from f xs (k + 1) ≡ None)
passes_at f xs k d below passes =
    none_split (f (k, get_or xs k d)) (flat_map f (enumerate_from (k + 1) (drop (k + 1) xs)))
    (sym (ap (λ ys. first_fault (flat_map f (enumerate_from k ys))) (drop_more xs k d below)) ∙ passes)

passes_from : {X : Type 0} (f : ℕ × X → List Check) (xs : List X) (k : ℕ) (d : X) → k ≤ length xs → checks_from f xs 0 ≡ None
    → checks_from f xs k ≡ None
passes_from f xs zero d within passes = passes
passes_from f xs (suc k) d within passes =
    let P : ℕ → Type 0 = λ n. checks_from f xs n ≡ None in
    subst P (add-one k) (passes_at f xs k d (omega arith) (passes_from f xs k d (omega arith) passes)).1

-- ---- names

-- what is said of an endpoint that passes is a canonical name
name_passes : (p : Parts) (x : Additions) (k : ℕ) (e : Option ℤ) → is_cname (name_of p.cname) ≡ true → first_fault (endpoint_checks x (k, e)) ≡ None
    → is_cname (said_name p x k) ≡ true
name_passes p x k e unit passes =
    let each = each_passes (endpoint_checks x (k, e)) passes in
    let any : Check = check true SameSsrc in
    said (own_name x k) (each 0 any (omega arith))
  where
    said : (own : Option (List ℕ)) → is_cname_or_none own ≡ true → is_cname (unwrap_or own (name_of p.cname)) ≡ true
    said None fits = unit
    said (Some name) fits = fits

names_pass : (p : Parts) (x : Additions) (k : ℕ) (es : List (Option ℤ)) → is_cname (name_of p.cname) ≡ true
    → first_fault (flat_map (endpoint_checks x) (enumerate_from k es)) ≡ None → All (λ n. is_cname n ≡ true) (said_names p x k es)
names_pass p x k [] unit passes = All-nil (λ n. is_cname n ≡ true)
names_pass p x k (e ∷ es) unit passes =
    let parts = none_split (endpoint_checks x (k, e)) (flat_map (endpoint_checks x) (enumerate_from (k + 1) es)) passes in
    All-cons (λ n. is_cname n ≡ true) (said_name p x k) (said_names p x (k + 1) es)
    (name_passes p x k e unit parts.0) (names_pass p x (k + 1) es unit parts.1)

length-said_names : (p : Parts) (x : Additions) (k : ℕ) (es : List (Option ℤ)) → length (said_names p x k es) ≡ length es
length-said_names p x k [] = refl
length-said_names p x k (e ∷ es) = ap suc (length-said_names p x (k + 1) es)

-- the names from the one of this number on
pub names_more : (p : Parts) (x : Additions) (es : List (Option ℤ)) (k : ℕ) → k < length es
    → said_names p x k (drop k es) ≡ said_name p x k ∷ said_names p x (k + 1) (drop (k + 1) es)
names_more p x es k below = ap (said_names p x k) (drop_more es k None below)

-- if every check passes, each name that is said is short enough to be said
pub names_fit : (p : Parts) (x : Additions) → first_fault (checks p x) ≡ None
    → (k : ℕ) → k < length p.endpoints.items → length (said_name p x k) ≤ CNAME_LIMIT
names_fit p x passes k below =
    let es = p.endpoints.items in
    let from = passes_from (endpoint_checks x) es k None (omega arith) (endpoints_of p x passes) in
    let here = (passes_at (endpoint_checks x) es k None below from).0 in
    (name_bounds (said_name p x k) (name_passes p x k (get_or es k None) (top_passes p x (top_of p x passes)).cname here)).1

-- a number that is there is below its limit
record IsThere (v : Option ℤ) (n : ℕ) : Type 0 where
  below : number_or_zero v n < n
  is : number_below v n ≡ Some (number_or_zero v n)

is_there : (v : Option ℤ) (n : ℕ) → is_some (number_below v n) ≡ true → IsThere v n
is_there None n there = absurd (cc)
is_there (Some (negsuc m)) n there = absurd (cc)
is_there (Some (pos m)) n there = step (nat_lt m n) refl there
  where
    step : (b : Bool) → nat_lt m n ≡ b → is_some (cond b (Some m) None) ≡ true → IsThere (Some (pos m)) n
    step true less t =
        let below : m < n = grind (arith, nat_tests) in
        record { below = rw less below; is = rw less refl }
    step false less t = absurd (cc)

and_left : (a b : Bool) → (a && b) ≡ true → a ≡ true
and_left true b both = refl
and_left false b both = both

and_right : (a b : Bool) → (a && b) ≡ true → b ≡ true
and_right true b both = both
and_right false b both = absurd (cc)

-- a leg that passes names two different endpoints
leg_passes : (p : Parts) (k : ℕ) (l : LegParts) → first_fault (leg_checks p (k, l)) ≡ None
    → IsLegAmong (length p.endpoints.items) (leg_of (length p.endpoints.items) l)
leg_passes p k l passes =
    let n = length p.endpoints.items in
    let subscriber = number_below l.subscriber n in
    let publisher = number_below l.publisher n in
    let each = each_passes (leg_checks p (k, l)) passes in
    let any : Check = check true SameSsrc in
    let two : is_publisher (take k p.legs.items) n subscriber publisher ≡ true = each 2 any (omega arith) in
    let three : is_some subscriber ≡ true = each 3 any (omega arith) in
    let first = and_left (is_some publisher && not (is_same subscriber publisher)) (not (has_pair (take k p.legs.items) n subscriber publisher)) two in
    let other = and_right (is_some publisher) (not (is_same subscriber publisher)) first in
    let s = is_there l.subscriber n three in
    let q = is_there l.publisher n (and_left (is_some publisher) (not (is_same subscriber publisher)) first) in
    let apart : not (number_or_zero l.subscriber n == number_or_zero l.publisher n) ≡ true = rw (s.is, q.is) at other in
    record { subscriber = s.below; publisher = q.below; different = differ (number_or_zero l.subscriber n) (number_or_zero l.publisher n) apart }
  where
    differ : (a b : ℕ) → not (a == b) ≡ true → a ≢ b
    differ a b apart same = absurd (grind (arith, nat_tests))

legs_pass : (p : Parts) (k : ℕ) (ls : List LegParts) → first_fault (flat_map (leg_checks p) (enumerate_from k ls)) ≡ None
    → All (IsLegAmong (length p.endpoints.items)) (map (leg_of (length p.endpoints.items)) ls)
legs_pass p k [] passes = All-nil (IsLegAmong (length p.endpoints.items))
legs_pass p k (l ∷ ls) passes =
    let parts = none_split (leg_checks p (k, l)) (flat_map (leg_checks p) (enumerate_from (k + 1) ls)) passes in
    All-cons (IsLegAmong (length p.endpoints.items)) (leg_of (length p.endpoints.items) l) (map (leg_of (length p.endpoints.items)) ls)
    (leg_passes p k l parts.0) (legs_pass p (k + 1) ls parts.1)

-- what the checks of a leg say: its ends are there, and no leg before it has them both
record LegPasses (p : Parts) (k : ℕ) (l : LegParts) : Type 0 where
  subscriber : IsThere l.subscriber (length p.endpoints.items)
  publisher : IsThere l.publisher (length p.endpoints.items)
  single : has_pair (take k p.legs.items) (length p.endpoints.items)
      (number_below l.subscriber (length p.endpoints.items)) (number_below l.publisher (length p.endpoints.items)) ≡ false

single_of : (b : Bool) → not b ≡ true → b ≡ false
single_of true is = absurd (cc)
single_of false is = refl

leg_says : (p : Parts) (k : ℕ) (l : LegParts) → first_fault (leg_checks p (k, l)) ≡ None → LegPasses p k l
leg_says p k l passes =
    let n = length p.endpoints.items in
    let subscriber = number_below l.subscriber n in
    let publisher = number_below l.publisher n in
    let earlier = has_pair (take k p.legs.items) n subscriber publisher in
    let each = each_passes (leg_checks p (k, l)) passes in
    let any : Check = check true SameSsrc in
    let two : is_publisher (take k p.legs.items) n subscriber publisher ≡ true = each 2 any (omega arith) in
    let three : is_some subscriber ≡ true = each 3 any (omega arith) in
    let first = and_left (is_some publisher && not (is_same subscriber publisher)) (not earlier) two in
    record {
      subscriber = is_there l.subscriber n three;
      publisher = is_there l.publisher n (and_left (is_some publisher) (not (is_same subscriber publisher)) first);
      single = single_of earlier (and_right (is_some publisher && not (is_same subscriber publisher)) (not earlier) two);
    }

both_same : (a b : Option ℕ) (x y : ℕ) → a ≡ Some x → b ≡ Some y → x ≡ y → is_same a b ≡ true
both_same a b x y p q same = rw (p, q) (eq-eqb x y same)

both_true : (a b : Bool) → a ≡ true → b ≡ true → (a && b) ≡ true
both_true a b p q = rw (p, q) refl

-- a leg with the ends of a later one is found among those before that
found_before : (p : Parts) (i j : ℕ) (d : LegParts) → i < j → j < length p.legs.items
    → LegPasses p i (get_or p.legs.items i d) → LegPasses p j (get_or p.legs.items j d)
    → HasOtherEnds (leg_of (length p.endpoints.items) (get_or p.legs.items i d)) (leg_of (length p.endpoints.items) (get_or p.legs.items j d))
found_before p i j d before below a b subscriber publisher =
    let n = length p.endpoints.items in
    let l = get_or p.legs.items i d in
    let m = get_or p.legs.items j d in
    let test : LegParts → Bool =
    λ o. is_same (number_below o.subscriber n) (number_below m.subscriber n) && is_same (number_below o.publisher n) (number_below m.publisher n) in
    let one = both_same (number_below l.subscriber n) (number_below m.subscriber n) (number_or_zero l.subscriber n) (number_or_zero m.subscriber n) a.subscriber.is b.subscriber.is subscriber in
    let two = both_same (number_below l.publisher n) (number_below m.publisher n) (number_or_zero l.publisher n) (number_or_zero m.publisher n) a.publisher.is b.publisher.is publisher in
    let here : test l ≡ true = both_true _ _ one two in
    let within : i < length (take j p.legs.items) = omega (arith, length-take-le j p.legs.items (omega arith)) in
    let there : test (get_or (take j p.legs.items) i d) ≡ true = ap test (get_or-take j p.legs.items i d before) ∙ here in
    absurd (false_true (sym b.single ∙ list_any_at test (take j p.legs.items) i d within there))
  where
    false_true : false ≡ true → ⊥
    false_true e = cc

pairs_differ : (p : Parts) → first_fault (legs_part p) ≡ None → AllPairs HasOtherEnds (map (leg_of (length p.endpoints.items)) p.legs.items)
pairs_differ p passes i j d before below =
    let n = length p.endpoints.items in
    let any : LegParts = record { subscriber = None; publisher = None; out_ssrc = None; first_seq = None; on = None } in
    let within : j < length p.legs.items = omega (arith, length-map p.legs.items (leg_of n)) in
    let at = λ (k : ℕ) (h : k < length p.legs.items).
    leg_says p k (get_or p.legs.items k any) (passes_at (leg_checks p) p.legs.items k any h (passes_from (leg_checks p) p.legs.items k any (omega arith) passes)).0 in
    rw (get_or-map (leg_of n) p.legs.items i any d (omega arith), get_or-map (leg_of n) p.legs.items j any d within)
    (found_before p i j any before within (at i (omega arith)) (at j within))

-- numbers that pass the test are distinct
pairs_distinct : (xs : List ℕ) → are_distinct xs ≡ true → AllPairs (λ x y. x ≢ y) xs
pairs_distinct [] distinct = λ i j d before below. absurd (omega arith)
pairs_distinct (x ∷ xs) distinct =
    let none = single_of (list_any (λ y. y == x) xs) (and_left (not (list_any (λ y. y == x) xs)) (are_distinct xs) distinct) in
    AllPairs-cons (λ x y. x ≢ y) x xs (others x xs none)
    (pairs_distinct xs (and_right (not (list_any (λ y. y == x) xs)) (are_distinct xs) distinct))
  where
    false_true : false ≡ true → ⊥
    false_true e = cc

    others : (x : ℕ) (xs : List ℕ) → list_any (λ y. y == x) xs ≡ false → All (λ y. x ≢ y) xs
    others x xs none k d below same =
        false_true (sym none ∙ list_any_at (λ y. y == x) xs k d below (eq-eqb (get_or xs k d) x (sym same)))

sources_distinct : (p : Parts) (x : Additions) → first_fault (checks p x) ≡ None → are_distinct (sources p) ≡ true
sources_distinct p x passes = shown (are_distinct (sources p)) (sym (past_legs p x (top_of p x passes) (endpoints_of p x passes) (legs_of p x passes)) ∙ passes)
  where
    shown : (b : Bool) → first_fault (check b SameSsrc ∷ []) ≡ None → b ≡ true
    shown true none = refl
    shown false none = absurd (cc)

sources_differ : (p : Parts) → are_distinct (sources p) ≡ true
    → AllPairs (λ a b. a ≢ b)
    (number_or_zero p.unit_ssrc SSRCS
    ∷ (map (λ e. e.0) (map ssrc_of p.endpoints.items) ++ map (λ l. l.out_ssrc.0) (map (leg_of (length p.endpoints.items)) p.legs.items)))
unfolding sources
sources_differ p distinct =
    rw (map-map (λ (e : Ssrc). e.0) ssrc_of p.endpoints.items, map-map (λ (l : LegSettings). l.out_ssrc.0) (leg_of (length p.endpoints.items)) p.legs.items)
    (pairs_distinct (sources p) distinct)

pub in_range : (p : Parts) (x : Additions) (n : Numbers) → AreNumbersOf p x n → first_fault (checks p x) ≡ None
    → IsInRange (record {
      workers = n.workers;
      ring = n.ring;
      history = n.history;
      timeout_ms = n.timeout_ms;
      report_ms = n.report_ms;
      report_slots = n.report_slots;
      request_ms = n.request_ms;
      pli_gap_ms = n.pli_gap_ms;
      unit_ssrc = ssrc_of p.unit_ssrc;
      cname = name_of p.cname;
      rules = x.rules;
      endpoints = map ssrc_of p.endpoints.items;
      cnames = said_names p x 0 p.endpoints.items;
      legs = map (leg_of (length p.endpoints.items)) p.legs.items;
    })
in_range p x n is whole =
    let top = top_of p x whole in
    let passes = top_passes p x top in
    let endpoints = endpoint_bounds p x top in
    let legs = leg_bound p x top in
    record {
      least_workers = (within_bounds p.workers 1 MAX_WORKERS n.workers is.workers).0;
      most_workers = (within_bounds p.workers 1 MAX_WORKERS n.workers is.workers).1;
      least_ring = (within_bounds p.ring 1 MAX_RING n.ring is.ring).0;
      most_ring = (within_bounds p.ring 1 MAX_RING n.ring is.ring).1;
      least_history = (within_bounds p.history LEAST_HISTORY MAX_HISTORY n.history is.history).0;
      most_history = (within_bounds p.history LEAST_HISTORY MAX_HISTORY n.history is.history).1;
      least_timeout = (within_bounds p.timeout_ms 1 MAX_PERIOD_MS n.timeout_ms is.timeout_ms).0;
      most_timeout = (within_bounds p.timeout_ms 1 MAX_PERIOD_MS n.timeout_ms is.timeout_ms).1;
      least_report = (within_bounds p.report_ms 1 MAX_PERIOD_MS n.report_ms is.report_ms).0;
      most_report = (within_bounds p.report_ms 1 MAX_PERIOD_MS n.report_ms is.report_ms).1;
      least_slots = (within_bounds (or_one x.report_slots) 1 MAX_REPORT_SLOTS n.report_slots is.report_slots).0;
      most_slots = (within_bounds (or_one x.report_slots) 1 MAX_REPORT_SLOTS n.report_slots is.report_slots).1;
      most_request = (within_bounds (or_zero p.request_ms) 0 MAX_PERIOD_MS n.request_ms is.request_ms).1;
      most_gap = (within_bounds p.pli_gap_ms 0 MAX_PERIOD_MS n.pli_gap_ms is.pli_gap_ms).1;
      least_cname = (name_bounds (name_of p.cname) passes.cname).0;
      most_cname = (name_bounds (name_of p.cname) passes.cname).1;
      least_endpoints = rw length-map endpoints.0;
      most_endpoints = rw length-map endpoints.1;
      most_legs = rw length-map legs;
      cname_count = length-said_names p x 0 p.endpoints.items ∙ sym (length-map p.endpoints.items ssrc_of);
      cnames = names_pass p x 0 p.endpoints.items passes.cname (endpoints_of p x whole);
      legs = rw (length-map p.endpoints.items ssrc_of) (legs_pass p 0 p.legs.items (legs_of p x whole));
      pairs = pairs_differ p (legs_of p x whole);
      sources = sources_differ p (sources_distinct p x whole);
    }
