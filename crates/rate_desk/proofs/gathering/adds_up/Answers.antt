use Rattle.std.proofs.Common.{◌≡◌, ◌^◌, ◌-◌, sym, ◌∙◌, rules}
use Rattle.std.specs.Prelude.{sum_by}
use Rattle.std.proofs.lemmas.Bool.{eqb-true, eq-eqb}
use Rattle.rate_desk.specs.Shares.{calls_to, words_to}
use Rattle.rate_desk.specs.Gathered.{AddsUp}
use Rattle.rate_desk.proofs.ShareLemmas.{few_calls, few_words, shown_sum, sum_shown}
use Rattle.rate_desk.proofs.gathering.adds_up.Goals as goal

pub returns-then-calls_of-calls : goal.returns-then-calls_of-calls
returns-then-calls_of-calls g c =
    let low = few_calls c.args.desk.now c.calls-calls.ensures.legal in
    let few = few_words c.args.desk.now c.words-words.ensures.legal in
    let same : c.calls_of.result ≡ c.calls-calls.result = search rules in
    let made = shown_sum _ (sum_by (calls_to c.args.publisher) c.args.seats.now) (2 ^ 64 - 1) _ low c.calls_of.ensures (same ∙ c.calls-calls.ensures.value) in (
      λ h. record {
        calls = made;
        words = shown_sum _ (sum_by (words_to c.args.publisher) c.args.seats.now) (2 ^ 128 - 1) _ few c.requested_of.ensures
            (eqb-true _ _ h ∙ c.words-words.ensures.value);
      },
      λ (a : AddsUp c.args.seats.now c.args.desk.now c.args.publisher). eq-eqb c.requested_of.result c.words-words.result
          (sum_shown _ (sum_by (words_to c.args.publisher) c.args.seats.now) (2 ^ 128 - 1) _ few c.requested_of.ensures a.words
          ∙ sym c.words-words.ensures.value),
    )
