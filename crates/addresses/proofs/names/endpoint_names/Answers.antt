use Rattle.std.proofs.Common.{◌++◌, ◌∷◌, [], ◌∙◌, ap, map}
use Rattle.std.specs.String.{string_bytes}
use Rattle.addresses.specs.Names.{endpoint_names, name_of_endpoint, numbered_name}
use Rattle.addresses.proofs.AddressBookLemmas.{map_passed}
use Rattle.addresses.proofs.names.endpoint_names.Goals as goal

pub loop-number-preserved : goal.loop-number-preserved
loop-number-preserved c =
    let number = c.loop-number.number in
    let text = c.index-texts-number.result in
    let before = map string_bytes c.loop-number.names.items in
    map_passed numbered_name number c.args.texts.now text before (map string_bytes c.push_name.new.names.items)
    (endpoint_names c.args.texts.now) c.loop-number-test.true
    (c.in_ok-push_name.ensures ∙ ap (λ t. before ++ name_of_endpoint number t ∷ []) c.index-texts-number.is) c.loop-number.invariant
