-- What comes to a list in two goes.
use Rattle.std.proofs.Common.{List, [], ◌++◌, append_assoc, sym, ap, ◌∙◌}
use Rattle.std.proofs.lemmas.List.{append-nil}
use Rattle.std.proofs.lemmas.Option.{same_Some}
use Rattle.std.specs.Prelude.{Option, None, Some}
use Rattle.ports.specs.Outside.{Grows}

pub grows_more : {A : Type 0} (a : Option (List A)) (xs ys : List A) (b c : Option (List A))
    → Grows a xs b → Grows b ys c → Grows a (xs ++ ys) c
grows_more {A} a xs ys b None first last = tt
grows_more {A} None xs ys None (Some all) first last = absurd (cc)
grows_more {A} None xs ys (Some m) (Some all) first last = absurd (cc)
grows_more {A} (Some k) xs ys None (Some all) first last = absurd (cc)
grows_more {A} (Some k) xs ys (Some m) (Some all) first last =
    ap Some (sym (append_assoc k xs ys)) ∙ ap (λ (l : List A). Some (l ++ ys)) (same_Some _ _ first) ∙ last

pub grows_nothing : {A : Type 0} (a : Option (List A)) → Grows a [] a
grows_nothing {A} None = tt
grows_nothing {A} (Some k) = ap Some (append-nil k)
