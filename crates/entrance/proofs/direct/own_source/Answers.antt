use Rattle.std.proofs.Common.{◌∙◌, ap}
use Rattle.std.proofs.lemmas.Option.{unwrap_or-slice_get}
use Rattle.std.specs.Prelude.{Option}
use Rattle.std.specs.Option.{unwrap_or}
use Rattle.tmmbr_tuple.specs.declared.ssrc.Ssrc.{Ssrc}
use Rattle.entrance.proofs.direct.own_source.Goals as goal

pub returns : goal.returns
returns c =
    let none : Ssrc = record { 0 = 0 } in
    c.unwrap_or.ensures ∙ ap (λ (o : Option Ssrc). unwrap_or o none) c.ssrc_of.ensures
    ∙ unwrap_or-slice_get c.args.links.now.endpoints c.args.endpoint none
