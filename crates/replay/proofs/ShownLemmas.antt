-- What is shown of lists one after the other.
use Rattle.std.proofs.Common.{◌≡◌, ◌∙◌, ℕ, ◌+◌, ◌<◌, ◌≤◌, ◌&&◌, suc, add-one, nat_le, slice_index_or, cond, drop, true, false, Bool, List, [], ◌∷◌, ◌++◌, map, length, take, get_or, Option, refl, sym, ap, subst, append_assoc}
use Rattle.std.specs.Io.KnownBytes.{Appends}
use Rattle.std.proofs.KnownBytes.{Appends-nil, Appends-trans}
use Rattle.std.proofs.lemmas.Bool.{cond-false, cond-true, le-leb, lt-leb}
use Rattle.std.proofs.lemmas.List.{append-nil, map-append, take_more}
use Rattle.events.specs.declared.output.Out.{Out}
use Rattle.replay.specs.LastPackets.{no_packet, packets_after}
use Rattle.replay.specs.Marks.{is_stranger_line}
use Rattle.replay.specs.Printing.{PrintsGiven}
use Rattle.replay.specs.Shown.{Cause, Given, Scene, Told, Trail, a_comment, a_set, an_event, an_out, comment_line, comment_told, event_told, gap_before, given_at, heading, is_named, is_shown, leg_sent, lines_at, lines_behind, names_source, new_line, open_gap, open_gaps, packet_at, said_after, shown_line, the_end, told_text, trail, trail_after, trail_behind}
use Rattle.rtcp_compound.specs.Mux.{is_rtcp}
use Rattle.datagram.specs.Naming.{heard_size, source_named}
use Rattle.replay.specs.declared.last_packets.LastPacket.{LastPacket}

lines_joined : (v : Scene) (t : Trail) (xs ys : List Given)
    → lines_behind v t (xs ++ ys) ≡ lines_behind v t xs ++ lines_behind v (trail_behind v t xs) ys
lines_joined v t [] ys = refl
lines_joined v t (x ∷ xs) ys =
    ap (λ (text : List ℕ). lines_at v t x ++ text) (lines_joined v (trail_after v t x) xs ys)
    ∙ sym (append_assoc (lines_at v t x) (lines_behind v (trail_after v t x) xs) (lines_behind v (trail_behind v (trail_after v t x) xs) ys))

trail_joined : (v : Scene) (t : Trail) (xs ys : List Given) → trail_behind v t (xs ++ ys) ≡ trail_behind v (trail_behind v t xs) ys
trail_joined v t [] ys = refl
trail_joined v t (x ∷ xs) ys = trail_joined v (trail_after v t x) xs ys

pub none_printed : (v : Scene) (t : Trail) (old : Option (List ℕ)) → PrintsGiven v t [] t old old
none_printed v t old = record { printed = Appends-nil old; ends = refl }

pub more_printed : (v : Scene) (a b e : Trail) (xs ys : List Given) (old mid new : Option (List ℕ))
    → PrintsGiven v a xs b old mid → PrintsGiven v b ys e mid new → PrintsGiven v a (xs ++ ys) e old new
more_printed v a b e xs ys old mid new p q =
    let behind = subst (λ (t : Trail). Appends mid new (lines_behind v t ys)) p.ends q.printed in
    let both = Appends-trans old mid new (lines_behind v a xs) (lines_behind v (trail_behind v a xs) ys) p.printed behind in
    record {
      printed = subst (Appends old new) (sym (lines_joined v a xs ys)) both;
      ends = q.ends ∙ (ap (λ (t : Trail). trail_behind v t ys) p.ends ∙ sym (trail_joined v a xs ys));
    }

-- one: the gaps that end there, and its own line
pub one_told : (v : Scene) (said behind : ℕ) (last then_last : List LastPacket) (g : Given) (gaps : List ℕ) (old mid new : Option (List ℕ))
    → Appends old mid gaps → Appends mid new (shown_line v said g) → lines_at v (trail said last) g ≡ gaps ++ shown_line v said g
    → trail behind then_last ≡ trail_after v (trail said last) g
    → PrintsGiven v (trail said last) (g ∷ []) (trail behind then_last) old new
one_told v said behind last then_last g gaps old mid new p q lines ends = record {
  printed = subst (Appends old new) (sym (append-nil (lines_at v (trail said last) g)))
      (subst (Appends old new) (sym lines) (Appends-trans old mid new gaps (shown_line v said g) p q));
  ends = ends;
}

-- something that the machine gave out
pub out_told : (v : Scene) (said behind : ℕ) (last then_last : List LastPacket) (cause : Cause) (out : Out) (leg : Option ℕ) (packet : LastPacket)
    (old mid new : Option (List ℕ)) → leg ≡ leg_sent v.table out → packet ≡ packet_at cause → Appends old mid (gap_before v last cause leg)
    → Appends mid new (shown_line v said (record { cause = cause; told = an_out out }))
    → behind ≡ said_after v said (record { cause = cause; told = an_out out }) → then_last ≡ packets_after last leg packet
    → PrintsGiven v (trail said last) (record { cause = cause; told = an_out out } ∷ []) (trail behind then_last) old new
out_told v said behind last then_last cause out leg packet old mid new leg_is packet_is p q said_is last_is =
    let g : Given = record { cause = cause; told = an_out out } in
    let gap = subst (λ (l : Option ℕ). Appends old mid (gap_before v last cause l)) leg_is p in
    let packets : then_last ≡ packets_after last (leg_sent v.table out) (packet_at cause) =
    last_is ∙ (ap (λ (l : Option ℕ). packets_after last l packet) leg_is ∙ ap (packets_after last (leg_sent v.table out)) packet_is) in
    one_told v said behind last then_last g (gap_before v last cause (leg_sent v.table out)) old mid new gap q refl
    (ap (λ (n : ℕ). trail n then_last) said_is ∙ ap (trail (said_after v said g)) packets)

-- what has no gap: its line is shown, or it isn't
told_shown : (v : Scene) (said : ℕ) (last : List LastPacket) (g : Given) (text : List ℕ) (old new : Option (List ℕ)) → is_shown v g ≡ true
    → shown_line v said g ≡ cond (is_shown v g) text [] → lines_at v (trail said last) g ≡ shown_line v said g
    → trail_after v (trail said last) g ≡ trail (said_after v said g) last
    → Appends old new text → PrintsGiven v (trail said last) (g ∷ []) (trail g.cause.number last) old new
told_shown v said last g text old new shown is lines ends p =
    let line : shown_line v said g ≡ text = is ∙ cond-true (is_shown v g) text [] shown in
    let number : said_after v said g ≡ g.cause.number = cond-true (is_shown v g) g.cause.number said shown in
    record {
      printed = subst (Appends old new) (sym (append-nil (lines_at v (trail said last) g) ∙ (lines ∙ line))) p;
      ends = sym (ends ∙ ap (λ (n : ℕ). trail n last) number);
    }

told_hidden : (v : Scene) (said : ℕ) (last : List LastPacket) (g : Given) (text : List ℕ) (old : Option (List ℕ)) → is_shown v g ≡ false
    → shown_line v said g ≡ cond (is_shown v g) text [] → lines_at v (trail said last) g ≡ shown_line v said g
    → trail_after v (trail said last) g ≡ trail (said_after v said g) last
    → PrintsGiven v (trail said last) (g ∷ []) (trail said last) old old
told_hidden v said last g text old hidden is lines ends =
    let line : shown_line v said g ≡ [] = is ∙ cond-false (is_shown v g) text [] hidden in
    let number : said_after v said g ≡ said = cond-false (is_shown v g) g.cause.number said hidden in
    record {
      printed = subst (Appends old old) (sym (append-nil (lines_at v (trail said last) g) ∙ (lines ∙ line))) (Appends-nil old);
      ends = sym (ends ∙ ap (λ (n : ℕ). trail n last) number);
    }

-- the line of an event
pub event_printed : (v : Scene) (said : ℕ) (last : List LastPacket) (cause : Cause) (is_new : Bool) (old new : Option (List ℕ)) → is_new ≡ true
    → is_shown v (record { cause = cause; told = an_event }) ≡ true → Appends old new (new_line v said cause)
    → PrintsGiven v (trail said last) (given_at cause (event_told is_new)) (trail cause.number last) old new
event_printed v said last cause true old new is shown p =
    told_shown v said last (record { cause = cause; told = an_event }) (new_line v said cause) old new shown refl refl refl p
event_printed v said last cause false old new is shown p = cc

pub event_hidden : (v : Scene) (said : ℕ) (last : List LastPacket) (cause : Cause) (is_new : Bool) (old : Option (List ℕ)) → is_new ≡ true
    → is_shown v (record { cause = cause; told = an_event }) ≡ false
    → PrintsGiven v (trail said last) (given_at cause (event_told is_new)) (trail said last) old old
event_hidden v said last cause true old is hidden =
    told_hidden v said last (record { cause = cause; told = an_event }) (new_line v said cause) old hidden refl refl refl
event_hidden v said last cause false old is hidden = cc

-- no event came
pub event_passed : (v : Scene) (said : ℕ) (last : List LastPacket) (cause : Cause) (is_new : Bool) (old : Option (List ℕ)) → is_new ≡ false
    → PrintsGiven v (trail said last) (given_at cause (event_told is_new)) (trail said last) old old
event_passed v said last cause true old is = cc
event_passed v said last cause false old is = none_printed v (trail said last) old

-- the line of a set
pub set_printed : (v : Scene) (said : ℕ) (last : List LastPacket) (cause : Cause) (text : List ℕ) (old new : Option (List ℕ))
    → v.shown.from_ms ≤ cause.moment → Appends old new (heading v said cause ++ text)
    → PrintsGiven v (trail said last) (given_at cause (a_set text ∷ [])) (trail cause.number last) old new
set_printed v said last cause text old new late p =
    let shown : is_shown v (record { cause = cause; told = a_set text }) ≡ true = rw (le-leb _ _ late) refl in
    told_shown v said last (record { cause = cause; told = a_set text }) (heading v said cause ++ text) old new shown refl refl refl p

pub set_hidden : (v : Scene) (said : ℕ) (last : List LastPacket) (cause : Cause) (text : List ℕ) (old : Option (List ℕ))
    → cause.moment < v.shown.from_ms
    → PrintsGiven v (trail said last) (given_at cause (a_set text ∷ [])) (trail said last) old old
set_hidden v said last cause text old early =
    let hidden : is_shown v (record { cause = cause; told = a_set text }) ≡ false = rw (lt-leb _ _ early) refl in
    told_hidden v said last (record { cause = cause; told = a_set text }) (heading v said cause ++ text) old hidden refl refl refl

never : (b : Bool) → (b && false) ≡ false
never true = refl
never false = refl

-- the gaps that last when the script is over
pub end_printed : (v : Scene) (said : ℕ) (last : List LastPacket) (cause : Cause) (old new : Option (List ℕ))
    → Appends old new (open_gaps v last cause (length v.table.legs))
    → PrintsGiven v (trail said last) (given_at cause (the_end ∷ [])) (trail said last) old new
end_printed v said last cause old new p =
    let g : Given = record { cause = cause; told = the_end } in
    let hidden : is_shown v g ≡ false = never (nat_le v.shown.from_ms cause.moment) in
    let none : shown_line v said g ≡ [] = cond-false (is_shown v g) (told_text v said cause the_end) [] hidden in
    let number : said_after v said g ≡ said = cond-false (is_shown v g) cause.number said hidden in
    one_told v said said last last g (open_gaps v last cause (length v.table.legs)) old new new p (subst (Appends new new) (sym none) (Appends-nil new)) refl
    (ap (λ (n : ℕ). trail n last) (sym number))

-- a comment, which is shown or not
pub comment_printed : (v : Scene) (said : ℕ) (last : List LastPacket) (cause : Cause) (line : List ℕ) (old new : Option (List ℕ))
    → is_stranger_line line ≡ true → Appends old new (comment_line v cause line)
    → PrintsGiven v (trail said last) (given_at cause (comment_told line)) (trail said last) old new
comment_printed v said last cause line old new is p =
    let g : Given = record { cause = cause; told = a_comment line } in
    let hidden : is_shown v g ≡ false = never (nat_le v.shown.from_ms cause.moment) in
    let none : shown_line v said g ≡ [] = cond-false (is_shown v g) (told_text v said cause (a_comment line)) [] hidden in
    let number : said_after v said g ≡ said = cond-false (is_shown v g) cause.number said hidden in
    let told : comment_told line ≡ a_comment line ∷ [] = cond-true (is_stranger_line line) (a_comment line ∷ []) [] is in
    subst (λ (ts : List Told). PrintsGiven v (trail said last) (given_at cause ts) (trail said last) old new) (sym told)
    (one_told v said said last last g (comment_line v cause line) old new new p (subst (Appends new new) (sym none) (Appends-nil new)) refl
    (ap (λ (n : ℕ). trail n last) (sym number)))

-- a line that is none
pub comment_passed : (v : Scene) (said : ℕ) (last : List LastPacket) (cause : Cause) (line : List ℕ) (old : Option (List ℕ))
    → is_stranger_line line ≡ false
    → PrintsGiven v (trail said last) (given_at cause (comment_told line)) (trail said last) old old
comment_passed v said last cause line old other =
    let told : comment_told line ≡ [] = cond-false (is_stranger_line line) (a_comment line ∷ []) [] other in
    subst (λ (ts : List Told). PrintsGiven v (trail said last) (given_at cause ts) (trail said last) old old) (sym told)
    (none_printed v (trail said last) old)

-- the gap of one leg more
pub more_gaps : (v : Scene) (last : List LastPacket) (cause : Cause) (leg : ℕ) (packet : LastPacket) (old mid new : Option (List ℕ))
    → packet ≡ slice_index_or last leg no_packet → Appends old mid (open_gaps v last cause leg) → Appends mid new (open_gap v cause leg packet)
    → Appends old new (open_gaps v last cause (leg + 1))
more_gaps v last cause leg packet old mid new is p q =
    let own = subst (λ (x : LastPacket). Appends mid new (open_gap v cause leg x)) is q in
    subst (λ (n : ℕ). Appends old new (open_gaps v last cause n)) (sym (add-one leg))
    (Appends-trans old mid new (open_gaps v last cause leg) (open_gap v cause leg (slice_index_or last leg no_packet)) p own)

-- the event first, then what the machine gave out
pub both_printed : (v : Scene) (a b e : Trail) (cause : Cause) (first : List Told) (outs : List Out) (old mid new : Option (List ℕ))
    → PrintsGiven v a (given_at cause first) b old mid → PrintsGiven v b (given_at cause (map an_out outs)) e mid new
    → PrintsGiven v a (given_at cause (first ++ map an_out outs)) e old new
both_printed v a b e cause first outs old mid new p q =
    let of_it : Told → Given = λ (t : Told). record { cause = cause; told = t } in
    subst (λ (gs : List Given). PrintsGiven v a gs e old new) (sym (map-append of_it first (map an_out outs)))
    (more_printed v a b e (given_at cause first) (given_at cause (map an_out outs)) old mid new p q)

-- one out more
given_more : (cause : Cause) (outs : List Out) (i : ℕ) (d : Out) → i < length outs
    → given_at cause (map an_out (take (i + 1) outs))
    ≡ given_at cause (map an_out (take i outs)) ++ record { cause = cause; told = an_out (get_or outs i d) } ∷ []
given_more cause outs i d below =
    let x = get_or outs i d in
    let of_it : Told → Given = λ (t : Told). record { cause = cause; told = t } in
    ap (λ (xs : List Out). given_at cause (map an_out xs)) (take_more outs i d below)
    ∙ (ap (map of_it) (map-append an_out (take i outs) (x ∷ [])) ∙ map-append of_it (map an_out (take i outs)) (an_out x ∷ []))

pub out_printed : (v : Scene) (cause : Cause) (a b : Trail) (outs : List Out) (i : ℕ) (d : Out) (old mid new : Option (List ℕ)) → i < length outs
    → PrintsGiven v a (given_at cause (map an_out (take i outs))) b old mid
    → (e : Trail) → PrintsGiven v b (record { cause = cause; told = an_out (get_or outs i d) } ∷ []) e mid new
    → PrintsGiven v a (given_at cause (map an_out (take (i + 1) outs))) e old new
out_printed v cause a b outs i d old mid new below p e q =
    subst (λ (gs : List Given). PrintsGiven v a gs e old new) (sym (given_more cause outs i d below))
    (more_printed v a b e (given_at cause (map an_out (take i outs))) (record { cause = cause; told = an_out (get_or outs i d) } ∷ []) old mid new p q)

-- ---- sources

pub named_behind : (left k source : ℕ) (datagram : List ℕ) → left ≡ suc k → is_named source (source_named datagram) ≡ false
    → is_rtcp datagram ≡ true → names_source left source datagram ≡ names_source k source (drop (heard_size datagram) datagram)
named_behind left k source datagram is unnamed control =
    ap (λ (n : ℕ). names_source n source datagram) is
    ∙ (cond-false (is_named source (source_named datagram)) true
    (cond (is_rtcp datagram) (names_source k source (drop (heard_size datagram) datagram)) false) unnamed
    ∙ cond-true (is_rtcp datagram) (names_source k source (drop (heard_size datagram) datagram)) false control)
