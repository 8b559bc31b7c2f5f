-- What is handed over in two goes, and counted.
use Rattle.std.proofs.Common.{◌≡◌, ℕ, ◌+◌, ◌<◌, List, [], ◌∷◌, ◌++◌, length, get_or, take, sym, ap, subst, ◌∙◌, arith}
use Rattle.std.proofs.lemmas.Grind.{flat_map-append}
use Rattle.std.proofs.lemmas.List.{length-append, take_more}
use Rattle.std.proofs.lemmas.List.Elements.{filter-append}
use Rattle.std.specs.Prelude.{filter}
use Rattle.events.specs.declared.output.Out.{Out}
use Rattle.ports.specs.Outside.{SinkView, Grows, datagram_in, datagrams_of}
use Rattle.ports.proofs.GrowsLemmas.{grows_more}
use Rattle.forwarding.specs.declared.done.Forwarded.{Forwarded}
use Rattle.forwarding.specs.Sending.{Adds, Sends, nothing_done, is_skip, is_miss}

pub adds_more : (xs ys : List Out) (a b c : SinkView) (d e f : Forwarded) → Adds xs a b d e → Adds ys b c e f
    → Adds (xs ++ ys) a c d f
adds_more xs ys a b c d e f first last =
    let sent : datagrams_of (xs ++ ys) ≡ datagrams_of xs ++ datagrams_of ys = flat_map-append datagram_in xs ys in
    let skips : filter is_skip (xs ++ ys) ≡ filter is_skip xs ++ filter is_skip ys = filter-append is_skip xs ys in
    let misses : filter is_miss (xs ++ ys) ≡ filter is_miss xs ++ filter is_miss ys = filter-append is_miss xs ys in
    let n = ap length sent ∙ length-append (datagrams_of xs) (datagrams_of ys) in
    let s = ap length skips ∙ length-append (filter is_skip xs) (filter is_skip ys) in
    let m = ap length misses ∙ length-append (filter is_miss xs) (filter is_miss ys) in
    record {
      handed = subst (λ l. Grows a.handed l c.handed) (sym sent) (grows_more a.handed (datagrams_of xs) (datagrams_of ys) b.handed c.handed first.handed last.handed);
      tried = omega (arith, first.tried, last.tried, n);
      failures = omega (arith, first.failures, last.failures);
      skipped = omega (arith, first.skipped, last.skipped, s);
      missed = omega (arith, first.missed, last.missed, m);
    }

-- ---- the next of a list
pub given_more : (outs : List Out) (i : ℕ) (o : Out) (a b c : SinkView) (d e : Forwarded) → i < length outs
    → Sends (take i outs) a b d → o ≡ get_or outs i o → Adds (o ∷ []) b c d e → Sends (take (i + 1) outs) a c e
given_more outs i o a b c d e within before is one =
    let all : take (i + 1) outs ≡ take i outs ++ o ∷ [] =
    take_more outs i o within ∙ ap (λ (q : Out). take i outs ++ q ∷ []) (sym is) in
    subst (λ (l : List Out). Sends l a c e) (sym all) (adds_more (take i outs) (o ∷ []) a b c nothing_done d e before one)
