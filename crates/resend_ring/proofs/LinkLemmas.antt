-- Links as packets come and go.
use Rattle.std.proofs.Common.{◌≡◌, ◌≢◌, ℕ, zero, suc, ◌+◌, ◌<◌, ◌≤◌, List, ◌∷◌, length, get_or, set, refl, sym, ap, ◌∙◌, inl, inr, subst, arith, get_or-set_other, get_or-set_same}
use Rattle.std.specs.Prelude.{◌%◌, min, Option, None, Some, MatchOption}
use Rattle.std.proofs.lemmas.Bool.{cases_lt, cases_eq, cases_order}
use Rattle.resend_ring.specs.declared.chains.Found.{Found}
use Rattle.resend_ring.specs.Chains.{IsLatest, IsLatestWith, IsFound, IsHead, AreLinks}
use Rattle.resend_ring.proofs.ChainLemmas.{head_latest}

-- ---- a packet comes

-- what stands once one more packet came, and nothing was taken out of its chain
abbrev pub After : (ℕ → Type 0) → ℕ → Type 0
After Stands zero = Unit {0}
After Stands (suc back) = Stands back

module _ (chains seq link : ℕ) (links seqs : List ℕ) (leads : AreLinks chains (IsLatest seqs) links seqs)
    (some : 0 < link)
    (first : (n : ℕ) → link ≡ suc n → n < length seqs → IsLatest seqs n × (get_or seqs n 0 % chains ≡ seq % chains))
    (skipped : (later : ℕ) → IsLatest seqs later → get_or seqs later 0 % chains ≡ seq % chains → later < length seqs → link ≤ suc later) where
  onward_after : (back : ℕ) → After (IsLatest seqs) back → back < suc (length seqs) → 0 < get_or (link ∷ links) back 0
  onward_after zero s inside = some
  onward_after (suc k) s inside = leads.onward k s (omega arith)

  stands_after : (back next : ℕ) → After (IsLatest seqs) back → back + get_or (link ∷ links) back 0 ≡ next → next < suc (length seqs)
      → After (IsLatest seqs) next
  stands_after back zero s e inside = tt
  stands_after zero (suc n) s e inside = (first n (omega arith) (omega arith)).0
  stands_after (suc k) (suc n) s e inside = leads.stands k n s (omega arith) (omega arith)

  on_chain_after : (back next : ℕ) → After (IsLatest seqs) back → back + get_or (link ∷ links) back 0 ≡ next → next < suc (length seqs)
      → get_or (seq ∷ seqs) next 0 % chains ≡ get_or (seq ∷ seqs) back 0 % chains
  on_chain_after zero zero s e inside = refl
  on_chain_after (suc k) zero s e inside = absurd (omega arith)
  on_chain_after zero (suc n) s e inside = (first n (omega arith) (omega arith)).1
  on_chain_after (suc k) (suc n) s e inside = leads.on_chain k n s (omega arith) (omega arith)

  skips_none_after : (back later : ℕ) → After (IsLatest seqs) back → After (IsLatest seqs) later
      → get_or (seq ∷ seqs) later 0 % chains ≡ get_or (seq ∷ seqs) back 0 % chains → back < later → later < suc (length seqs)
      → back + get_or (link ∷ links) back 0 ≤ later
  skips_none_after back zero s t e less inside = absurd (omega arith)
  skips_none_after zero (suc n) s t e less inside = omega (arith, skipped n t e (omega arith))
  skips_none_after (suc k) (suc n) s t e less inside = omega (arith, leads.skips_none k n s t e (omega arith) (omega arith))

  pub links_pushed : AreLinks chains (After (IsLatest seqs)) (link ∷ links) (seq ∷ seqs)
  links_pushed = record { onward = onward_after; stands = stands_after; on_chain = on_chain_after; skips_none = skips_none_after }

-- ---- a packet is taken out of its chain

module _ (chains : ℕ) (Stands : ℕ → Type 0) (links seqs : List ℕ) (newer found link : ℕ) (leads : AreLinks chains Stands links seqs)
    (newer_stands : Stands newer) (there : newer + get_or links newer 0 ≡ found) (inside : found < length seqs)
    (many : length links ≡ length seqs) (link_is : link ≡ min (get_or links newer 0 + get_or links found 0) 65535) (few : length seqs ≤ 65535) where
  -- the place from which a chain leads to one that is found is only one
  one_newer : (back : ℕ) → Stands back → back + get_or links back 0 ≡ found → back ≡ newer
  one_newer back s e =
      let class : get_or seqs newer 0 % chains ≡ get_or seqs back 0 % chains =
      sym (leads.on_chain newer found newer_stands there inside) ∙ leads.on_chain back found s e inside in
      let on_back = leads.onward back s (omega arith) in
      let on_newer = leads.onward newer newer_stands (omega arith) in
      elim (cases_order back newer) [
        | inl same ↦ same
        | inr (inl less) ↦ absurd (omega (arith, leads.skips_none back newer s newer_stands class less (omega arith)))
        | inr (inr more) ↦ absurd (omega (arith, leads.skips_none newer back newer_stands s (sym class) more (omega arith)))
      ]

  abbrev Others : ℕ → Type 0
  Others back = Stands back × (back ≢ found)

  link_same : get_or (set links newer link) newer 0 ≡ link
  link_same = get_or-set_same links newer link 0 (omega arith)

  link_other : (back : ℕ) → back ≢ newer → get_or (set links newer link) back 0 ≡ get_or links back 0
  link_other back other = get_or-set_other links newer back link 0 other

  found_stands : Stands found
  found_stands = leads.stands newer found newer_stands there inside

  -- where a link leads now, it led from there, or from the packet that is out
  led : (back next : ℕ) → Others back → back + get_or (set links newer link) back 0 ≡ next → next < length seqs
      → Others next × (get_or seqs next 0 % chains ≡ get_or seqs back 0 % chains)
  led back next s e within = elim (cases_eq back newer) [
    | inl same ↦
        let read : get_or (set links newer link) back 0 ≡ link = ap (λ b. get_or (set links newer link) b 0) same ∙ link_same in
        let past : found + get_or links found 0 ≡ next = omega (arith, there, link_is, read, e, same) in
        let on = leads.onward found found_stands inside in (
          (leads.stands found next found_stands past within, λ back_there. omega (arith, on, past, back_there)),
          leads.on_chain found next found_stands past within
              ∙ (leads.on_chain newer found newer_stands there inside ∙ ap (λ b. get_or seqs b 0 % chains) (sym same)),
        )
    | inr other ↦
        let before : back + get_or links back 0 ≡ next = ap (λ n. back + n) (sym (link_other back other)) ∙ e in (
          (leads.stands back next s.0 before within, λ there. other (one_newer back s.0 (before ∙ there))),
          leads.on_chain back next s.0 before within,
        )
  ]

  pub links_without : AreLinks chains Others (set links newer link) seqs
  links_without = record {
    onward = λ back s within. elim (cases_eq back newer) [
      | inl same ↦
          let read : get_or (set links newer link) back 0 ≡ link = ap (λ b. get_or (set links newer link) b 0) same ∙ link_same in
          omega (arith, read, link_is, leads.onward newer newer_stands (omega arith))
      | inr other ↦ omega (arith, link_other back other, leads.onward back s.0 within)
    ];
    stands = λ back next s e within. (led back next s e within).0;
    on_chain = λ back next s e within. (led back next s e within).1;
    skips_none = λ back later s t class less within. elim (cases_eq back newer) [
      | inl same ↦
          let read : get_or (set links newer link) back 0 ≡ link = ap (λ b. get_or (set links newer link) b 0) same ∙ link_same in
          let class_newer : get_or seqs later 0 % chains ≡ get_or seqs newer 0 % chains = class ∙ ap (λ b. get_or seqs b 0 % chains) same in
          let reached = leads.skips_none newer later newer_stands t.0 class_newer (omega (arith, same)) within in
          let apart : later ≢ found = t.1 in
          let past = leads.skips_none found later found_stands t.0 (class_newer ∙ sym (leads.on_chain newer found newer_stands there inside))
          (omega (arith, reached, there)) within in
          omega (arith, read, link_is, there, past, same)
      | inr other ↦ omega (arith, link_other back other, leads.skips_none back later s.0 t.0 class less within)
    ];
  }

-- ---- what stands, said otherwise

pub links_same : (chains : ℕ) (A B : ℕ → Type 0) (links seqs : List ℕ) → AreLinks chains A links seqs
    → ((back : ℕ) → back < length seqs → A back → B back) → ((back : ℕ) → back < length seqs → B back → A back) → AreLinks chains B links seqs
links_same chains A B links seqs leads to from = record {
  onward = λ back s within. leads.onward back (from back within s) within;
  stands = λ back next s e within. to next within (leads.stands back next (from back (omega arith) s) e within);
  on_chain = λ back next s e within. leads.on_chain back next (from back (omega arith) s) e within;
  skips_none = λ back later s t class less within.
      leads.skips_none back later (from back (omega arith) s) (from later within t) class less within;
}

module _ (seq : ℕ) (seqs : List ℕ) where
  to_latest : (back : ℕ) → After (IsLatest seqs) back → (get_or (seq ∷ seqs) back 0 ≡ seq → back ≡ zero) → IsLatest (seq ∷ seqs) back
  to_latest zero s other k below = absurd (omega arith)
  to_latest (suc back) s other zero below = λ same. absurd (omega (arith, other (sym same)))
  to_latest (suc back) s other (suc k) below = s k (omega arith)

  from_latest : (back : ℕ) → IsLatest (seq ∷ seqs) back → After (IsLatest seqs) back
  from_latest zero s = tt
  from_latest (suc back) s = λ k below. s (suc k) (omega arith)

  -- what stands is the latest of each number, if no older packet has the new one's
  pub latest_alone : (chains : ℕ) (links : List ℕ) → AreLinks chains (After (IsLatest seqs)) links (seq ∷ seqs)
      → ((k : ℕ) → k < length seqs → get_or seqs k 0 ≢ seq) → AreLinks chains (IsLatest (seq ∷ seqs)) links (seq ∷ seqs)
  latest_alone chains links leads none =
      links_same chains (After (IsLatest seqs)) (IsLatest (seq ∷ seqs)) links (seq ∷ seqs) leads
      (λ back inside s. to_latest back s (none_else back inside))
      (λ back inside. from_latest back)
    where
      none_else : (back : ℕ) → back < suc (length seqs) → get_or (seq ∷ seqs) back 0 ≡ seq → back ≡ zero
      none_else zero inside same = refl
      none_else (suc k) inside same = absurd (none k (omega arith) same)

  -- and if one has it, and is out of its chain
  pub latest_again : (chains : ℕ) (links : List ℕ) (found : ℕ) → IsLatestWith seq seqs found
      → AreLinks chains (λ back. After (IsLatest seqs) back × (back ≢ suc found)) links (seq ∷ seqs)
      → AreLinks chains (IsLatest (seq ∷ seqs)) links (seq ∷ seqs)
  latest_again chains links found is leads =
      links_same chains (λ back. After (IsLatest seqs) back × (back ≢ suc found)) (IsLatest (seq ∷ seqs)) links (seq ∷ seqs) leads
      (λ back inside s. to_latest back s.0 (one_else back s.0 s.1))
      (λ back inside s. (from_latest back s, not_found back s))
    where
      one_else : (back : ℕ) → After (IsLatest seqs) back → back ≢ suc found → get_or (seq ∷ seqs) back 0 ≡ seq → back ≡ zero
      one_else zero s other same = refl
      one_else (suc k) s other same = elim (cases_order k found) [
        | inl here ↦ absurd (other (ap suc here))
        | inr (inl less) ↦ absurd (is.latest k less (same ∙ sym is.number))
        | inr (inr more) ↦ absurd (s found more (is.number ∙ sym same))
      ]

      not_found : (back : ℕ) → IsLatest (seq ∷ seqs) back → back ≢ suc found
      not_found back s here = s zero (omega arith) (sym is.number ∙ ap (λ b. get_or (seq ∷ seqs) b 0) (sym here))

at_none : (o : Option ℕ) (A : Type 0) (B : ℕ → Type 0) → o ≡ None → MatchOption o A B → A
at_none o A B is = subst (λ p. MatchOption p A B → A) (sym is) (λ a. a)

at_some : (o : Option ℕ) (n : ℕ) (A : Type 0) (B : ℕ → Type 0) → o ≡ Some n → MatchOption o A B → B n
at_some o n A B is = subst (λ p. MatchOption p A B → B n) (sym is) (λ b. b)

module _ (chains seq : ℕ) (links seqs : List ℕ) (head : ℕ) (found : Found) (is : IsFound chains seq links seqs head found) where
  abbrev Leads : ℕ → Type 0
  Leads newer = IsLatest seqs newer × (get_or seqs newer 0 % chains ≡ seq % chains) × (newer + get_or links newer 0 ≡ found.back)

  found_at_head : found.newer ≡ None → found.back ≡ head
  found_at_head none = at_none found.newer (found.back ≡ head) Leads none is.newer

  found_from : (newer : ℕ) → found.newer ≡ Some newer → Leads newer
  found_from newer some = at_some found.newer newer (found.back ≡ head) Leads some is.newer

  pub newer_inside : (newer : ℕ) → found.newer ≡ Some newer → newer < length seqs
  newer_inside newer some = omega (arith, (found_from newer some).2, is.latest.inside)

-- ---- the four ways in which a packet is linked as it comes

module _ (chains seq : ℕ) (links seqs : List ℕ) (leads : AreLinks chains (IsLatest seqs) links seqs)
    (many : length links ≡ length seqs) (few : length seqs < 65535) where
  -- on an empty chain
  pub linked_alone : ((k : ℕ) → k < length seqs → get_or seqs k 0 % chains ≢ seq % chains)
      → AreLinks chains (IsLatest (seq ∷ seqs)) (65535 ∷ links) (seq ∷ seqs)
  linked_alone none =
      latest_alone seq seqs chains (65535 ∷ links)
      (links_pushed chains seq 65535 links seqs leads (omega arith) (λ n e inside. absurd (omega arith)) (λ later s class inside. absurd (none later inside class)))
      (λ k inside same. none k inside (ap (λ s. s % chains) same))

  module _ (head : ℕ) (is_head : IsHead chains seq seqs head) where
    pushed : AreLinks chains (After (IsLatest seqs)) ((head + 1) ∷ links) (seq ∷ seqs)
    pushed =
        links_pushed chains seq (head + 1) links seqs leads (omega arith)
        (λ n e inside. let here : head ≡ n = omega arith in subst (λ b. IsLatest seqs b × (get_or seqs b 0 % chains ≡ seq % chains)) here (head_latest chains seq seqs head is_head, is_head.on_chain))
        (λ later s class inside. elim (cases_lt later head) [
          | inl less ↦ absurd (is_head.newest later less class)
          | inr more ↦ omega arith
        ])

    -- with a new number
    pub linked_new : ((k : ℕ) → k < length seqs → get_or seqs k 0 ≢ seq) → AreLinks chains (IsLatest (seq ∷ seqs)) ((head + 1) ∷ links) (seq ∷ seqs)
    linked_new none = latest_alone seq seqs chains ((head + 1) ∷ links) pushed none

    module _ (found : Found) (is_found : IsFound chains seq links seqs head found) (past : ℕ) (past_is : past ≡ get_or links found.back 0) where
      -- with the number of the newest packet of the chain
      pub linked_over_head : found.newer ≡ None → (link : ℕ) → link ≡ min (head + 1 + past) 65535
          → AreLinks chains (IsLatest (seq ∷ seqs)) (link ∷ links) (seq ∷ seqs)
      linked_over_head none link link_is =
          let here : found.back ≡ head = found_at_head chains seq links seqs head found is_found none in
          latest_again seq seqs chains (link ∷ links) found.back is_found.latest
          (links_without chains (After (IsLatest seqs)) ((head + 1) ∷ links) (seq ∷ seqs) zero (suc found.back) link pushed tt
          (omega arith) (omega (arith, is_found.latest.inside)) (ap suc many) (omega arith) (omega arith))

      -- with the number of another one
      pub linked_over : (newer : ℕ) → found.newer ≡ Some newer → (link : ℕ) → link ≡ min (get_or links newer 0 + past) 65535
          → AreLinks chains (IsLatest (seq ∷ seqs)) ((head + 1) ∷ set links newer link) (seq ∷ seqs)
      linked_over newer some link link_is =
          let leads_there = found_from chains seq links seqs head found is_found newer some in
          latest_again seq seqs chains ((head + 1) ∷ set links newer link) found.back is_found.latest
          (links_without chains (After (IsLatest seqs)) ((head + 1) ∷ links) (seq ∷ seqs) (suc newer) (suc found.back) link pushed leads_there.0
          (omega (arith, leads_there.2)) (omega (arith, is_found.latest.inside)) (ap suc many) (omega arith) (omega arith))
