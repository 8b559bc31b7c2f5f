-- What is left holds the last word of each owner.
use Rattle.std.proofs.Common.{◌≡◌, ℕ, ◌+◌, List, [], ◌∷◌, ◌++◌, Option, None, Some, Result, Ok, Err, Bool, true, false, eqb, nat_lt, length, if◌then◌else◌, refl, sym, ap, subst, ◌∙◌, inl, inr}
use Rattle.rate_cert.specs.declared.request.Request.{Request}
use Rattle.bounding_set.specs.declared.rows.TheConstants.{LIVE_LIMIT}
use Rattle.request_text.specs.declared.fault.LineFault.{LineFault}
use Rattle.request_text.specs.declared.fault.LineFault.TheVariants.{Full}
use Rattle.request_text.specs.Asked.{Change, asks, leaves}
use Rattle.request_text.specs.Lines.{Asked, AreRowsOf, Demands, HoldsLastWords, HasOwnersOnce, LineLeaves, LinesAsk, LinesLeave, Refused, TextLeaves, after_changes, lines_of, put_word, spelled_by, without, word_after, word_for, ◌>>=◌}
use Rattle.request_text.proofs.LiveLemmas.{once_put, once_without, word_for-put_word, word_for-without}

-- the words of some live requests, each owner once, are those of others after changes
pub record HasWordsAfter (live : List Asked) (changes : List Change) (next : List Asked) : Type 0 where
  pub once : HasOwnersOnce next
  pub words : (owner : ℕ) → word_for next owner ≡ word_after (word_for live owner) changes owner

no_full : (live next : List Asked) (changes : List Change) → (let r : Result (List Asked) LineFault = Err Full in r) ≡ Ok next → HasWordsAfter live changes next
no_full live next changes e = cc

-- changes that are all done
pub words_after : (changes : List Change) (live next : List Asked) → HasOwnersOnce live → after_changes changes live ≡ Ok next → HasWordsAfter live changes next
words_after [] live next once is =
    let same : live ≡ next = cc in
    subst (HasWordsAfter live []) same (record { once = once; words = λ owner. refl })
words_after (asks o w ∷ changes) live next once is =
    go (nat_lt (length (put_word live o w)) (LIVE_LIMIT + 1)) (words_after changes (put_word live o w) next (once_put live o w once)) is
  where
    go : (b : Bool) → (after_changes changes (put_word live o w) ≡ Ok next → HasWordsAfter (put_word live o w) changes next)
        → ((if b then Ok (put_word live o w) else Err Full) >>= after_changes changes) ≡ Ok next → HasWordsAfter live (asks o w ∷ changes) next
    go true rest is =
        let others = rest is in record {
          once = others.once;
          words = λ owner. others.words owner ∙ ap (λ (word : Option ℕ). word_after word changes owner) (word_for-put_word live o w owner);
        }
    go false rest is = no_full live next (asks o w ∷ changes) is
words_after (leaves o ∷ changes) live next once is =
    let others = words_after changes (without live o) next (once_without live o once) is in record {
      once = others.once;
      words = λ owner. others.words owner ∙ ap (λ (word : Option ℕ). word_after word changes owner) (word_for-without live o owner once);
    }

word_after-append : (first others : List Change) (word : Option ℕ) (owner : ℕ)
    → word_after word (first ++ others) owner ≡ word_after (word_after word first owner) others owner
word_after-append [] others word owner = refl
word_after-append (asks o w ∷ first) others word owner = word_after-append first others (if eqb o owner then Some w else word) owner
word_after-append (leaves o ∷ first) others word owner = word_after-append first others (if eqb o owner then None else word) owner

-- what a line that is done asks for
record IsDone (media : ℕ) (line : List ℕ) (live next : List Asked) : Type 0 where
  changes : List Change
  demands : Demands media (spelled_by line) (Ok changes)
  words : HasWordsAfter live changes next

done_line : (media : ℕ) (line : List ℕ) (live next : List Asked) → HasOwnersOnce live → LineLeaves media line live (Ok next) → IsDone media line live next
done_line media line live next once left = go left.asked left.says left.done
  where
    go : (asked : Result (List Change) LineFault) → Demands media (spelled_by line) asked
        → Ok next ≡ (asked >>= λ changes. after_changes changes live) → IsDone media line live next
    go (Ok changes) says is = record { changes = changes; demands = says; words = words_after changes live next once (sym is) }
    go (Err fault) says is = cc

-- what lines that are done ask for
pub record AreDone (media : ℕ) (lines : List (List ℕ)) (live final : List Asked) : Type 0 where
  pub changes : List Change
  pub asked : LinesAsk media lines changes
  pub words : HasWordsAfter live changes final

pub done_lines : (media n : ℕ) (lines : List (List ℕ)) (live final : List Asked) → HasOwnersOnce live → LinesLeave media n lines live (Ok final)
    → AreDone media lines live final
done_lines media n [] live final once left =
    let same : live ≡ final = cc in
    subst (AreDone media [] live) same (record { changes = []; asked = refl; words = record { once = once; words = λ owner. refl } })
done_lines media n (line ∷ lines) live final once left =
    elim left [
      | inl one ↦
          let here = done_line media line live one.0 once one.1 in
          let others = done_lines media (n + 1) lines one.0 final here.words.once one.2 in record {
            changes = here.changes ++ others.changes;
            asked = (here.changes, others.changes, here.demands, others.asked, refl);
            words = record {
              once = others.words.once;
              words = λ owner.
                  others.words.words owner ∙ ap (λ (word : Option ℕ). word_after word others.changes owner) (here.words.words owner)
                  ∙ sym (word_after-append here.changes others.changes (word_for live owner) owner);
            };
          }
      | inr one ↦ no_fault (record { line = n; fault = one.0 }) final one.2
    ]
  where
    no_fault : (refused : Refused) (final : List Asked) → (let r : Result (List Asked) Refused = Ok final in r) ≡ Err refused
        → AreDone media (line ∷ lines) live final
    no_fault refused final e = cc

-- what a text leaves holds the last words that it asks for
pub holds_last : (media : ℕ) (text : List ℕ) (live : List Asked) (rows : List Request) → TextLeaves media text (Ok live) → AreRowsOf live rows
    → HoldsLastWords media text rows
holds_last media text live rows left are =
    let all = done_lines media 1 (lines_of text) [] live tt left in
    record { changes = all.changes; asked = all.asked; words = λ owner. are.words owner ∙ all.words.words owner }
