-- Which request is answered by what.
use Rattle.std.specs.Prelude.{◌≡◌, ◌^◌, ◌||◌, ℕ, List, Option, None, Some, codes, option_and_then, if◌then◌else◌}
use Rattle.std.specs.Str.{bytes_eq}
use Rattle.json.specs.Print.{print}
use Rattle.web.specs.declared.answer.Answer.{Answer}
use Rattle.web.specs.declared.answer.Target.{Target}
use Rattle.web.specs.declared.answer.Target.TheVariants as asked
use Rattle.web.specs.declared.answer.Kind.{Kind}
use Rattle.web.specs.declared.answer.Kind.TheVariants as kind
use Rattle.web.specs.declared.answer.Verdict.{Verdict}
use Rattle.web.specs.declared.answer.Verdict.TheVariants as verdict
use Rattle.web.specs.declared.answer.View.{View}
use Rattle.web.specs.declared.answer.View.TheVariants.{Page, Metrics, State, Why, Picture}
use Rattle.web.specs.declared.page.TheConstants.{PAGE_TEXT}
use Rattle.web.specs.declared.said.Said.{Said}
use Rattle.web.specs.State.{state_tokens}
use Rattle.web.specs.Sets.{IsDrawn, media_in, set_in}
use Rattle.web.specs.Words.{without_end, without_start}
use Rattle.request_text.specs.Words.{number_under}

-- ---- what is asked for

-- N of /publishers/N.svg
abbrev pub picture_number : List ℕ → Option ℕ
picture_number path =
    option_and_then (λ rest. option_and_then (number_under (2 ^ 16)) (without_end (codes ".svg") rest))
    (without_start (codes "/publishers/") path)

abbrev pub picture_place : Option ℕ → Target
picture_place (Some number) = asked.Shown (Picture number)
picture_place None = asked.Absent

abbrev pub place_of : List ℕ → Target
place_of path =
    if bytes_eq path (codes "/") then asked.Shown Page
    else if bytes_eq path (codes "/metrics") then asked.Shown Metrics
    else if bytes_eq path (codes "/state.json") then asked.Shown State
    else if bytes_eq path (codes "/why") then asked.Shown Why
    else picture_place (picture_number path)

-- other methods are unallowed, whatever the path
abbrev pub asked_by : List ℕ → List ℕ → Target
asked_by method path = if bytes_eq method (codes "GET") || bytes_eq method (codes "HEAD")
    then place_of path else asked.Unallowed

-- ---- what is answered

pub record Seen : Type 0 where
  pub verdict : Verdict
  pub kind : Kind
  pub body : List ℕ

abbrev pub answer_seen : Answer → Seen
answer_seen a = record { verdict = a.verdict; kind = a.kind; body = a.body.items }

abbrev pub plain_answer : Verdict → List ℕ → Seen
plain_answer v text = record { verdict = v; kind = kind.Plain; body = text }

-- the page is the same whatever the unit said
abbrev pub page_answer : Seen
page_answer = record { verdict = verdict.Fine; kind = kind.Html; body = PAGE_TEXT.now }

-- the picture of the set that is said; 502 if what is said is no set
abbrev pub IsSetSeen : Seen → Option (List ℕ) → Type 0
IsSetSeen seen (Some picture) =
    seen ≡ record { verdict = verdict.Fine; kind = kind.Svg; body = picture }
IsSetSeen seen None = seen ≡ plain_answer verdict.Unreadable (codes "no set\n")

abbrev pub IsSetAnswer : ℕ → List ℕ → Seen → Type 0
IsSetAnswer media text seen =
    (picture : Option (List ℕ)) × IsDrawn media text picture × IsSetSeen seen picture

-- 404 of a publisher that isn't there; 503 of one whose set wasn't said
abbrev pub IsPictured : Option ℕ → Option (List ℕ) → Seen → Type 0
IsPictured None text seen = seen ≡ plain_answer verdict.Absent (codes "not found\n")
IsPictured (Some media) None seen =
    seen ≡ plain_answer verdict.Silent (codes "the unit does not answer\n")
IsPictured (Some media) (Some text) seen = IsSetAnswer media text seen

abbrev pub IsPictureAnswer : ℕ → Said → Seen → Type 0
IsPictureAnswer publisher said seen =
    IsPictured (media_in said.present.items publisher) (set_in said.sets.items publisher) seen

-- metrics and reasons are what the unit said, byte by byte
abbrev pub IsShown : View → Said → Seen → Type 0
IsShown Page said seen = seen ≡ page_answer
IsShown Metrics said seen =
    seen ≡ record { verdict = verdict.Fine; kind = kind.Metrics; body = said.metrics.items }
IsShown State said seen = seen ≡ record {
  verdict = verdict.Fine;
  kind = kind.Json;
  body = print (state_tokens said);
}
IsShown Why said seen = seen ≡ plain_answer verdict.Fine said.why.items
IsShown (Picture publisher) said seen = IsPictureAnswer publisher said seen

-- of a unit that says nothing nothing is shown but the page
abbrev pub silent_answer : View → Seen
silent_answer Page = page_answer
silent_answer Metrics = plain_answer verdict.Silent (codes "the unit does not answer\n")
silent_answer State = plain_answer verdict.Silent (codes "the unit does not answer\n")
silent_answer Why = plain_answer verdict.Silent (codes "the unit does not answer\n")
silent_answer (Picture publisher) = plain_answer verdict.Silent (codes "the unit does not answer\n")

abbrev pub IsAnswer : Target → Option Said → Seen → Type 0
IsAnswer asked.Absent said seen = seen ≡ plain_answer verdict.Absent (codes "not found\n")
IsAnswer asked.Unallowed said seen =
    seen ≡ plain_answer verdict.Unallowed (codes "method not allowed\n")
IsAnswer asked.Misdirected said seen =
    seen ≡ plain_answer verdict.Misdirected (codes "not this host\n")
IsAnswer (asked.Shown view) (Some said) seen = IsShown view said seen
IsAnswer (asked.Shown view) None seen = seen ≡ silent_answer view
