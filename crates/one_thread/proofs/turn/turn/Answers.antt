use Rattle.std.proofs.Common.{◌∷◌, ◌++◌, [], List, ℕ, Option, sym, subst, refl, ap}
use Rattle.core_steps.specs.World.{WorldState}
use Rattle.datagram.specs.Reads.{Admission, admission_of}
use Rattle.events.specs.declared.event.Event.{Event}
use Rattle.events.specs.declared.output.Out.{Out}
use Rattle.ports.specs.Outside.{Arrival, Grows}
use Rattle.entrance.specs.Entrance.{arrival_by}
use Rattle.one_thread.specs.declared.tally.Tally.{Tally}
use Rattle.one_thread.specs.Driving.{Drives}
use Rattle.one_thread.specs.Turns.{SendsCounted, brought_at, tick_at}
use Rattle.one_thread.proofs.TurnLemmas.{on_err_of, says_taken, turn_broken, turn_in_vain, turn_made}
use Rattle.one_thread.proofs.turn.turn.Goals as goal

pub returns-in_err-came-clause-err : goal.returns-in_err-came-clause-err
returns-in_err-came-clause-err g c =
    on_err_of c.from_residual.result _
    (turn_in_vain c.args.engine.now.ticks c.args.engine.now.world (g.E.Entrance.given c.args.entrance.now)
    (g.E.Entrance.given c.receive.new.self) (g.E.Entrance.told c.args.entrance.now) (g.E.Entrance.told c.receive.new.self)
    (g.Snk.Sink.shown c.args.sink.now) c.in_err-came.ensures.err)

pub returns-in_err-done-clause-err : goal.returns-in_err-done-clause-err
returns-in_err-done-clause-err g c =
    let datagram : List ℕ = g.E.Entrance.datagram c.receive.new.self in
    let came = c.in_ok-came.came in
    let t : Admission = admission_of c.taking-taking.result in
    let arrival : Arrival = arrival_by came.admitted t.endpoint datagram in
    let says = says_taken c.args.engine.now.world c.view.result.links.now came.admitted t (g.E.Entrance.current c.receive.new.self) datagram c.view.ensures.links
    c.taking-taking.ensures c.in_ok-came.ensures.taken in
    let P : ℕ → Type 0 = λ e. Grows (g.E.Entrance.given c.args.entrance.now) (arrival_by came.admitted e datagram ∷ []) (g.E.Entrance.given c.receive.new.self) in
    on_err_of c.from_residual-in_err-done.result _
    (turn_broken c.args.engine.now.ticks c.args.engine.now.world c.take_turn.new.world (g.E.Entrance.given c.args.entrance.now)
    (g.E.Entrance.given c.receive.new.self) (g.E.Entrance.told c.args.entrance.now) (g.E.Entrance.told c.receive.new.self)
    (g.Snk.Sink.shown c.args.sink.now) arrival came.moment
    c.args.engine.now.outs.items c.take_turn.new.outs.items c.requires.empty
    (subst P (sym (ap (λ (x : Admission). x.endpoint) c.taking-taking.ensures)) c.in_ok-came.ensures.given)
    c.in_ok-came.ensures.told (c.in_err-done.ensures.err datagram says))

pub returns-clause-ok : goal.returns-clause-ok
returns-clause-ok g c =
    let datagram : List ℕ = g.E.Entrance.datagram c.receive.new.self in
    let came = c.in_ok-came.came in
    let t : Admission = admission_of c.taking-taking.result in
    let arrival : Arrival = arrival_by came.admitted t.endpoint datagram in
    let says = says_taken c.args.engine.now.world c.view.result.links.now came.admitted t (g.E.Entrance.current c.receive.new.self) datagram c.view.ensures.links
    c.taking-taking.ensures c.in_ok-came.ensures.taken in
    let P : ℕ → Type 0 = λ e. Grows (g.E.Entrance.given c.args.entrance.now) (arrival_by came.admitted e datagram ∷ []) (g.E.Entrance.given c.receive.new.self) in
    let mid : Tally = record {
      heard = c.heard_with-engine.result;
      sent = c.args.engine.now.tally.sent;
      failed = c.args.engine.now.tally.failed;
    } in
    let events : List Event = brought_at came.moment arrival ++ tick_at c.args.engine.now.ticks came.moment in
    let driven = subst (λ (w : WorldState). Drives events c.args.engine.now.world c.args.engine.now.outs.items w c.take_turn.new.outs.items)
    (sym c.take_back.ensures.world) (c.in_ok-done.ensures.ok datagram says) in
    let given = subst (λ (l : Option (List Arrival)). Grows (g.E.Entrance.given c.args.entrance.now) (arrival ∷ []) l) (sym c.tell.ensures.given)
    (subst P (sym (ap (λ (x : Admission). x.endpoint) c.taking-taking.ensures)) c.in_ok-came.ensures.given) in
    let told = subst (λ (l : Option (List ℕ)). Grows (g.E.Entrance.told c.args.entrance.now) (came.moment ∷ []) l) (sym c.tell.ensures.told) c.in_ok-came.ensures.told in
    turn_made c.args.engine.now.ticks c.take_turn.new.ticks c.args.engine.now.faults c.faults_with-engine.result c.is_stop-engine.result c.args.engine.now.world
    c.take_back.new.self (g.E.Entrance.given c.args.entrance.now) (g.E.Entrance.given c.tell.new.entrance)
    (g.E.Entrance.told c.args.entrance.now) (g.E.Entrance.told c.tell.new.entrance) (g.Snk.Sink.shown c.args.sink.now)
    (g.Snk.Sink.shown c.give_all.new.sink) c.args.engine.now.tally mid c.give_all.new.tally arrival
    came.moment c.args.engine.now.outs.items c.take_turn.new.outs.items c.requires.empty
    given told driven
    c.in_ok-done.ensures.noted (c.faults_with-engine.ensures t.endpoint datagram) (c.is_stop-engine.ensures t.endpoint datagram) (c.heard_with-engine.ensures t.endpoint datagram) refl refl
    (subst (λ (l : List Out). SendsCounted l (g.Snk.Sink.shown c.args.sink.now) (g.Snk.Sink.shown c.give_all.new.sink) mid c.give_all.new.tally)
    c.as_slice.ensures.value c.give_all.ensures)
