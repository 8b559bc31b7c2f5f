use Rattle.std.proofs.Common.{◌∙◌, refl, sym}
use Rattle.request_text.proofs.WordLemmas.{nine}
use Rattle.request_text.proofs.entry.implied_entry.Goals as goal
use Rattle.request_text.proofs.entry.implied_entry.Goals.{then-not-is_word-via-then-not-is_word, then-not-is_word-via-else-not-is_word+then-not-is_word-2}

pub returns : goal.returns
returns c =
    let words = nine c.args.words.now c.if-words-ne9.false in
    let by = sym c.is_word.ensures ∙ c.if-not-is_word.false in
    let times = sym c.is_word-else-not-is_word.ensures ∙ c.if-not-is_word-2.false in
    rw (words, by, times, sym c.in_ok-request.ensures, sym c.in_ok-read_claim.ensures) refl

pub returns-then-not-is_word : goal.returns-then-not-is_word
returns-then-not-is_word c =
    let words = nine c.args.words.now c.if-words-ne9.false in
    elim c.then-not-is_word.branch [
      | then-not-is_word-via-then-not-is_word w ↦
          let by = sym c.is_word.ensures ∙ w.if-not-is_word.true in
          rw (words, by) refl
      | then-not-is_word-via-else-not-is_word+then-not-is_word-2 w ↦
          let by = sym c.is_word.ensures ∙ w.if-not-is_word.false in
          let times = sym w.is_word-else-not-is_word.ensures ∙ w.if-not-is_word-2.true in
          rw (words, by, times) refl
    ]

pub returns-in_err-request : goal.returns-in_err-request
returns-in_err-request c =
    let words = nine c.args.words.now c.if-words-ne9.false in
    let by = sym c.is_word.ensures ∙ c.if-not-is_word.false in
    let times = sym c.is_word-else-not-is_word.ensures ∙ c.if-not-is_word-2.false in
    rw (c.from_residual.ensures, words, by, times, sym c.in_err-request.ensures) refl

pub returns-in_err-read_claim : goal.returns-in_err-read_claim
returns-in_err-read_claim c =
    let words = nine c.args.words.now c.if-words-ne9.false in
    let by = sym c.is_word.ensures ∙ c.if-not-is_word.false in
    let times = sym c.is_word-else-not-is_word.ensures ∙ c.if-not-is_word-2.false in
    rw (c.from_residual-in_err-read_claim.ensures, words, by, times, sym c.in_ok-request.ensures, sym c.in_err-read_claim.ensures) refl
