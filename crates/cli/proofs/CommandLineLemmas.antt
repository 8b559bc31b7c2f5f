-- What a parse makes of the words of `bound --sender N`, for any number.
use Rattle.std.proofs.Common.{◌≡◌, ◌≢◌, ◌∙◌, ◌<◌, ◌^◌, ◌==◌, ◌&&◌, ◌||◌, ℕ, Bool, true, false, cond, drop, refl, sym, ap, subst, arith, inl, inr, List, [], ◌∷◌, Option, Some, None, Result, Ok, Err, codes, option_map, unwrap_or, nat_lt}
use Rattle.std.specs.Prelude.{pos, decimal, option_and_then}
use Rattle.std.specs.Result.{result_ok}
use Rattle.std.specs.Str.Parse.{IsNumeral, ParsesUnsigned, digits_value, without_leading_plus}
use Rattle.std.proofs.lemmas.Bool.{cond-false, cond-true, lt-ltb, ltb-true, ne_eqb}
use Rattle.std.proofs.lemmas.Int.{ints}
use Rattle.std.proofs.lemmas.Str.Parse.{digit_from_value}
use Rattle.clap.specs.Lexer.{strip_byte}
use Rattle.clap.specs.Matches.{ReadsOne}
use Rattle.clap.specs.Words.{App, HasKind, HasMatchesOf, IsAmong, Kinds, Row, Text, fault_of, first_value, is_simple_and_free, kind_of, matched_of, raw_values, rows_of, subcommand_of, subcommand_rows_of}
use Rattle.clap.specs.declared.error.Error.{Error}
use Rattle.clap.specs.declared.error.kind.ErrorKind.{ErrorKind}
use Rattle.clap.specs.declared.error.kind.ErrorKind.TheVariants as kind
use Rattle.clap.specs.declared.parser.matches.ArgMatches.{ArgMatches}
use Rattle.clap.specs.declared.parser.matches.Found.{Found}
use Rattle.clap.specs.declared.parser.matches.ValueSource.TheVariants.{CommandLine}
use Rattle.clap.specs.declared.builder.value_parser.Reading.{Reading}
use Rattle.clap.specs.declared.builder.value_parser.Reading.TheVariants.{WithoutMinus}
use Rattle.clap.specs.ValueTests.{accepts, is_numeral}
use Rattle.clap.proofs.ValueTestLemmas.{Accepts-accepts}
use Rattle.clap.proofs.OnLiterals.{clap_on_literals}
use Rattle.clap.proofs.WalkLemmas.{both, first_value-rows, raw_values-rows}
use Rattle.clap.specs.declared.builder.ValueParser.{ValueParser}
use Rattle.clap.specs.declared.builder.ValueParser.TheVariants as vp
use Rattle.std.proofs.lemmas.Fmt.{decimal_is_IsNumeral}
use Rattle.request_text.specs.Words.{number_under}
use Rattle.request_text.proofs.DigitLemmas.{digits_back, digits_from}
use Rattle.cli.specs.CommandLine.{Request, Types, ask, asked_for, asked_named, asked_with, bound, check, has_version, is_set, is_version, is_yes, moment_in, number_in, number_of, page, plain_named, plan, record_with, replay, request_found, sdp, serve, serve_named, sfu, version, words_in}

-- ---- reading a number

-- a numeral of a number of so many bits
abbrev fits_in : ℕ → List ℕ → Bool
fits_in bits ds = is_numeral ds && nat_lt (digits_value 10 ds) (2 ^ bits)

abbrev number_of_bits : ℕ → Text → Option ℕ
number_of_bits bits text = number_under (2 ^ bits) (without_leading_plus text)

is_fit : (bits : ℕ) (ds : List ℕ) → IsNumeral 10 ds → digits_value 10 ds < 2 ^ bits → fits_in bits ds ≡ true
is_fit bits ds numeral fits = rw (lt-ltb _ _ numeral.0, digits_back ds numeral.1, lt-ltb _ _ fits) refl

fit_is : (bits : ℕ) (ds : List ℕ) → fits_in bits ds ≡ true → IsNumeral 10 ds × (digits_value 10 ds < 2 ^ bits)
fit_is bits ds e =
    let parts = both _ _ e in
    let numeral = both _ _ parts.0 in
    ((ltb-true _ _ numeral.0, digits_from ds numeral.1), ltb-true _ _ parts.1)

pub number_at : (bits : ℕ) (E : Type 0) (text : Text) (r : Result ℕ E) → ParsesUnsigned bits 10 text r → result_ok r ≡ number_of_bits bits text
number_at bits E text (Ok v) h = ap Some h.1 ∙ sym (cond-true (fits_in bits (without_leading_plus text)) _ _ (is_fit bits _ h.0.0 h.0.1))
number_at bits E text (Err x) h = go (fits_in bits (without_leading_plus text)) refl
  where
    go : (b : Bool) → fits_in bits (without_leading_plus text) ≡ b → None ≡ number_of_bits bits text
    go true e = absurd (h (fit_is bits _ e))
    go false e = sym (cond-false (fits_in bits (without_leading_plus text)) _ _ e)

reads_number : (bits : ℕ) (E : Type 0) (G : List ℕ → Result ℕ E → Type 0) (t : Text) (r : Option ℕ)
    → ((u : Text) (x : Result ℕ E) → G u x → ParsesUnsigned bits 10 u x) → ReadsOne G t r → r ≡ number_of_bits bits t
reads_number bits E G t (Some v) only h = number_at bits E t (Ok v) (only t (Ok v) h)
reads_number bits E G t None only h = number_at bits E t (Err h.0) (only t (Err h.0) h.1)

pub one_read : (bits : ℕ) (E : Type 0) (G : List ℕ → Result ℕ E → Type 0) (o : Option Text) (r : Option ℕ)
    → ((u : Text) (x : Result ℕ E) → G u x → ParsesUnsigned bits 10 u x) → (o ≡ None → r ≡ None) → ((t : Text) → o ≡ Some t → ReadsOne G t r)
    → r ≡ option_and_then (number_of_bits bits) o
one_read bits E G None r only none value = none refl
one_read bits E G (Some t) r only none value = reads_number bits E G t r only (value t refl)

-- ---- the words of each subcommand

abbrev u32_parser : ValueParser
u32_parser = vp.Signed (pos 0) (pos 4294967295)

no_hyphen : (d : ℕ) (ds : Text) → (d == 45) ≡ false → strip_byte 45 (d ∷ ds) ≡ None
no_hyphen d ds e = cond-false (d == 45) (Some ds) None e

abbrev row : Text → Reading → Text → Row
row id how value = record {
  id = id;
  values = value ∷ [];
  count = None;
  source = Some CommandLine;
  reading = how;
}

bound_found : (name : Text) (d : ℕ) (ds : Text) → (d == 45) ≡ false
    → subcommand_of sfu (name ∷ codes "bound" ∷ codes "--sender" ∷ (d ∷ ds) ∷ []) ≡ Some (codes "bound", row (codes "sender") WithoutMinus (d ∷ ds) ∷ [])
unfolding clap_on_literals
bound_found name d ds e = rw (e, no_hyphen d ds e) refl

bound_named : (name : Text) (d : ℕ) (ds : Text) → (d == 45) ≡ false
    → request_found (subcommand_of sfu (name ∷ codes "bound" ∷ codes "--sender" ∷ (d ∷ ds) ∷ [])) ≡ option_map bound (number_of (d ∷ ds))
bound_named name d ds e =
    ap request_found (bound_found name d ds e) ∙ ap (λ (o : Option Text). option_map bound (number_of (unwrap_or o (d ∷ ds)))) (no_hyphen d ds e)

bound_free : (name : Text) (d : ℕ) (ds : Text) → (d == 45) ≡ false → accepts false u32_parser (d ∷ ds) ≡ true
    → fault_of sfu (name ∷ codes "bound" ∷ codes "--sender" ∷ (d ∷ ds) ∷ []) ≡ []
unfolding clap_on_literals
bound_free name d ds e p = rw (e, no_hyphen d ds e, p) refl

-- whether an option without a value is there, by its text
pub set_read : (f : Found) (id : Text) (text : Option Text) → text ≡ first_value f id → is_yes text ≡ is_set id (rows_of f)
set_read f id text is = ap is_yes (is ∙ first_value-rows f id)

-- what the typed getters find
pub asked_check : (f : Found) (file : Option Text) → file ≡ first_value f (codes "FILE")
    → option_map check file ≡ plain_named (codes "check") (rows_of f)
asked_check f file is = ap (option_map check) (is ∙ first_value-rows f (codes "FILE"))

pub asked_plan : (f : Found) (file : Option Text) → file ≡ first_value f (codes "FILE")
    → option_map plan file ≡ plain_named (codes "settings") (rows_of f)
asked_plan f file is = ap (option_map plan) (is ∙ first_value-rows f (codes "FILE"))

pub asked_replay : (f : Found) (file : Option Text) (leg endpoint from : Option ℕ) (events : Bool) (gaps : Option ℕ) (utc others : Bool)
    → file ≡ first_value f (codes "FILE")
    → leg ≡ number_in (codes "only-leg") (rows_of f) → endpoint ≡ number_in (codes "only-endpoint") (rows_of f)
    → from ≡ moment_in (codes "from") (rows_of f) → events ≡ is_set (codes "events") (rows_of f)
    → gaps ≡ moment_in (codes "gaps") (rows_of f) → utc ≡ is_set (codes "utc") (rows_of f)
    → others ≡ is_set (codes "other-settings") (rows_of f)
    → option_map (λ t. replay t leg endpoint from events gaps utc others) file ≡ plain_named (codes "replay") (rows_of f)
asked_replay f file leg endpoint from events gaps utc others is at_leg at_endpoint at_from at_events at_gaps at_utc at_others =
    rw (at_leg, at_endpoint, at_from, at_events, at_gaps, at_utc, at_others)
    (ap (option_map (λ t. replay t (number_in (codes "only-leg") (rows_of f)) (number_in (codes "only-endpoint") (rows_of f))
    (moment_in (codes "from") (rows_of f)) (is_set (codes "events") (rows_of f)) (moment_in (codes "gaps") (rows_of f))
    (is_set (codes "utc") (rows_of f)) (is_set (codes "other-settings") (rows_of f))))
    (is ∙ first_value-rows f (codes "FILE")))

pub asked_page : (f : Found) (path address : Option Text) (anyone : Bool) (host : Option Text) → path ≡ first_value f (codes "PATH")
    → address ≡ first_value f (codes "ADDRESS") → anyone ≡ is_set (codes "anyone") (rows_of f) → host ≡ first_value f (codes "host")
    → option_and_then (λ p. option_map (λ a. page p a anyone host) address) path ≡ plain_named (codes "page") (rows_of f)
asked_page f path address anyone host at_path at_address at_anyone at_host =
    let path_is = at_path ∙ first_value-rows f (codes "PATH") in
    let address_is = at_address ∙ first_value-rows f (codes "ADDRESS") in
    let host_is = at_host ∙ first_value-rows f (codes "host") in
    rw (path_is, address_is, at_anyone, host_is) refl

pub asked_serve : (f : Found) (recorded : Option (Option (Text × Option ℕ × Bool))) (path : Option Text) (limit : Option ℕ) (next : Bool) (file : Option Text)
    (ticks status : Option ℕ) (control : Option Text) (log_time : Bool) (numbers : Option Text) (log_why : Bool) → recorded ≡ record_with path limit next
    → path ≡ first_value f (codes "record")
    → limit ≡ moment_in (codes "record-limit") (rows_of f) → next ≡ is_set (codes "record-next") (rows_of f) → file ≡ first_value f (codes "FILE")
    → ticks ≡ number_in (codes "ticks") (rows_of f) → status ≡ number_in (codes "status") (rows_of f)
    → control ≡ first_value f (codes "control") → log_time ≡ is_set (codes "log-time") (rows_of f) → numbers ≡ first_value f (codes "numbers")
    → log_why ≡ is_set (codes "log-why") (rows_of f)
    → option_and_then (λ r. option_map (λ t. serve t ticks status control r log_time numbers log_why) file) recorded ≡ serve_named (rows_of f)
asked_serve f recorded path limit next file ticks status control log_time numbers log_why at_record at_path at_limit at_next at_file at_ticks at_status at_control at_time at_numbers at_why =
    let path_is = at_path ∙ first_value-rows f (codes "record") in
    let file_is = at_file ∙ first_value-rows f (codes "FILE") in
    let control_is = at_control ∙ first_value-rows f (codes "control") in
    let numbers_is = at_numbers ∙ first_value-rows f (codes "numbers") in
    rw (at_record, path_is, at_limit, at_next, file_is, at_ticks, at_status, control_is, at_time, numbers_is, at_why) refl

pub words_read : (f : Found) (id : Text) (words : Option (List Text)) → words ≡ option_map raw_values (matched_of f id)
    → unwrap_or words [] ≡ words_in id (rows_of f)
words_read f id words is = ap (λ (o : Option (List Text)). unwrap_or o []) (is ∙ raw_values-rows f id)

pub asked_ask : (f : Found) (path : Option Text) (words : List Text) → path ≡ first_value f (codes "PATH")
    → words ≡ words_in (codes "WORD") (rows_of f) → option_map (λ p. ask p words) path ≡ asked_named (codes "ask") (rows_of f)
asked_ask f path words at_path at_words =
    let path_is = at_path ∙ first_value-rows f (codes "PATH") in
    rw (path_is, at_words) refl

pub asked_sdp : (f : Found) (file : Option Text) (endpoints : List Text) → file ≡ first_value f (codes "FILE")
    → endpoints ≡ words_in (codes "ENDPOINT") (rows_of f) → option_map (λ t. sdp t endpoints) file ≡ asked_named (codes "sdp") (rows_of f)
asked_sdp f file endpoints at_file at_endpoints =
    let file_is = at_file ∙ first_value-rows f (codes "FILE") in
    rw (file_is, at_endpoints) refl

-- ---- numerals

record IsNumber (number : Text) (n : ℕ) : Type 0 where
  d : ℕ
  ds : Text
  is : number ≡ d ∷ ds
  plain : (d == 45) ≡ false
  read : number_of (d ∷ ds) ≡ Some n
  passes : accepts false u32_parser (d ∷ ds) ≡ true

numeral_number : (number : Text) (n : ℕ) → IsNumeral 10 number → digits_value 10 number ≡ n → n < 2 ^ 32 → IsNumber number n
numeral_number [] n numeral is fits = absurd (omega (arith, numeral.0))
numeral_number (d ∷ ds) n numeral is fits =
    let digit = digit_from_value d numeral.1.0 in
    let minus : (d == 45) ≡ false = ne_eqb d 45 (λ e. omega (arith, digit)) in
    let plus : (d == 43) ≡ false = ne_eqb d 43 (λ e. omega (arith, digit)) in
    let small : digits_value 10 (d ∷ ds) < 2 ^ 32 = subst (λ (k : ℕ). k < 2 ^ 32) (sym is) fits in
    let whole : without_leading_plus (d ∷ ds) ≡ d ∷ ds = ap (λ (b : Bool). drop (cond b 1 0) (d ∷ ds)) plus in
    record {
      d = d;
      ds = ds;
      is = refl;
      plain = minus;
      read = ap (λ (t : Text). cond (fits_in 32 t) (Some (digits_value 10 t)) None) whole ∙ cond-true (fits_in 32 (d ∷ ds)) _ _ (is_fit 32 (d ∷ ds) numeral small) ∙ ap Some is;
      passes = Accepts-accepts false u32_parser (d ∷ ds) (rw (minus, plus) (numeral, record { sfits = omega (arith, small) }, omega (arith, ints), omega (arith, ints, small)));
    }

decimal_number : (n : ℕ) → n < 2 ^ 32 → IsNumber (decimal n) n
decimal_number n fits =
    let d = decimal_is_IsNumeral n (omega arith) in
    numeral_number (decimal n) n d.0 d.1 fits

bound_asked : (name : Text) (number : Text) (media : ℕ) → IsNumber number media
    → asked_for (name ∷ codes "bound" ∷ codes "--sender" ∷ number ∷ []) ≡ Some (bound media)
bound_asked name number media k =
    rw (k.is, bound_free name k.d k.ds k.plain k.passes) (bound_named name k.d k.ds k.plain ∙ ap (option_map bound) k.read)

-- the words of `bound --sender N` ask for that
pub typed : (words : List Text) (media : ℕ) → Types words media → asked_for words ≡ Some (bound media)
typed words media t = ap asked_for t.1 ∙ bound_asked t.0 (decimal media) media (decimal_number media t.2)

-- ---- what a parse says

some_is : {X : Type 0} (x y : X) → Some x ≡ Some y → x ≡ y
some_is x y e = cc

-- matches: there is no fault
pub asked_as_found : (a : App) (words : List Text) (m : ArgMatches) (asked : Option Request) → a ≡ sfu
    → (is_simple_and_free a ≡ true → fault_of a words ≡ []) → HasMatchesOf a words m → asked ≡ request_found (subcommand_rows_of m)
    → asked_for words ≡ asked
asked_as_found a words m asked is free found read =
    let none : fault_of sfu words ≡ [] = subst (λ (b : App). is_simple_and_free b ≡ true → fault_of b words ≡ []) is free refl in
    let rows = subst (λ (b : App). HasMatchesOf b words m) is found refl in
    ap (λ (k : Kinds). asked_with k (subcommand_of sfu words)) none ∙ ap request_found (sym rows.1) ∙ sym read

or_later : (a b : Bool) → b ≡ true → (a || b) ≡ true
or_later true b e = refl
or_later false b e = e

among_version : (k : ErrorKind) (ks : Kinds) → IsAmong k ks → k ≡ kind.DisplayVersion → has_version ks ≡ true
among_version k [] among is = absurd among
among_version k (x ∷ xs) (inl here) is = rw (sym here ∙ is) refl
among_version k (x ∷ xs) (inr later) is = or_later (is_version x) (has_version xs) (among_version k xs later is)

with_version : (kinds : Kinds) (found : Option (Text × List Row)) → has_version kinds ≡ true → asked_with kinds found ≡ Some version
with_version [] found has = cc
with_version (k ∷ ks) found has = cond-true (has_version (k ∷ ks)) _ _ has

told_version : (kinds : Kinds) (found : Option (Text × List Row)) (e : Error) → HasKind kinds e → kind_of e ≡ kind.DisplayVersion
    → asked_with kinds found ≡ Some version
told_version kinds found e (inl memory) is = cc
told_version kinds found e (inr among) is = with_version kinds found (among_version (kind_of e) kinds among is)

-- the version stands in place of matches
pub asked_version : (a : App) (words : List Text) (e : Error) → a ≡ sfu → (is_simple_and_free a ≡ true → HasKind (fault_of a words) e)
    → kind_of e ≡ kind.DisplayVersion → asked_for words ≡ Some version
asked_version a words e is fails told =
    told_version (fault_of sfu words) (subcommand_of sfu words) e
    (subst (λ (b : App). is_simple_and_free b ≡ true → HasKind (fault_of b words) e) is fails refl) told

by_memory : (kinds : Kinds) (found : Option (Text × List Row)) (e : Error) (asked : Request) → HasKind kinds e
    → asked_with kinds found ≡ Some asked → asked ≢ version → kind_of e ≡ kind.OutOfMemory
by_memory kinds found e asked (inl memory) is other = memory
by_memory [] found e asked (inr among) is other = absurd among
by_memory (k ∷ ks) found e asked (inr among) is other = go (has_version (k ∷ ks)) refl
  where
    go : (b : Bool) → has_version (k ∷ ks) ≡ b → kind_of e ≡ kind.OutOfMemory
    go true has =
        let told : Some version ≡ Some asked = sym (cond-true (has_version (k ∷ ks)) _ _ has) ∙ is in
        absurd (other (sym (some_is _ _ told)))
    go false has =
        let none : None ≡ Some asked = sym (cond-false (has_version (k ∷ ks)) _ _ has) ∙ is in
        cc

-- what asks for something else has no fault: only memory is wanting
pub refused_for_memory : (a : App) (words : List Text) (e : Error) (asked : Request) → a ≡ sfu
    → (is_simple_and_free a ≡ true → HasKind (fault_of a words) e) → asked_for words ≡ Some asked → asked ≢ version
    → kind_of e ≡ kind.OutOfMemory
refused_for_memory a words e asked is fails asks other =
    by_memory (fault_of sfu words) (subcommand_of sfu words) e asked
    (subst (λ (b : App). is_simple_and_free b ≡ true → HasKind (fault_of b words) e) is fails refl) asks other
