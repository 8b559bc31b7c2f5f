-- What a client is sent: the answer of `page`, as a response of HTTP.
use Rattle.std.specs.Prelude.{ℕ, Option, None, Some, List, [], ◌∷◌, ◌++◌, codes, if◌then◌else◌}
use Rattle.http.specs.declared.request.Request.{Request}
use Rattle.http.specs.declared.request.Parts.{Parts}
use Rattle.http_header.specs.FieldValue.{FieldValue}
use Rattle.http_header.specs.HeaderMap.{get}
use Rattle.http.specs.Request.{head_of}
use Rattle.http1.specs.Fields.{Header}
use Rattle.http_server.specs.declared.response.Response.{Response}
use Rattle.http_server.specs.Response.{IsResponse}
use Rattle.http_uri.specs.Uri.{uri_path}
use Rattle.web.specs.declared.answer.Kind.{Kind}
use Rattle.web.specs.declared.answer.Kind.TheVariants as kind
use Rattle.web.specs.declared.said.Said.{Said}
use Rattle.web.specs.declared.answer.Verdict.{Verdict}
use Rattle.web.specs.declared.answer.Verdict.TheVariants.{Fine, Absent, Unallowed, Misdirected, Unreadable, Silent}
use Rattle.web.specs.declared.answer.Target.{Target}
use Rattle.web.specs.declared.answer.Target.TheVariants as asked
use Rattle.web.specs.Answers.{Seen, IsAnswer, asked_by}
use Rattle.web.specs.Hosts.{is_known_host}
use Rattle.web.specs.declared.teller.TheConstants.{OTHER_POLICY, PAGE_POLICY}

-- RFC 9110, section 15
abbrev pub status_number : Verdict → ℕ
status_number Fine = 200
status_number Absent = 404
status_number Unallowed = 405
status_number Misdirected = 421
status_number Unreadable = 502
status_number Silent = 503

abbrev pub kind_text : Kind → List ℕ
kind_text kind.Html = codes "text/html; charset=utf-8"
kind_text kind.Metrics = codes "text/plain; version=0.0.4; charset=utf-8"
kind_text kind.Json = codes "application/json"
kind_text kind.Svg = codes "image/svg+xml"
kind_text kind.Plain = codes "text/plain; charset=utf-8"

-- one answer a connection
abbrev pub kind_fields : List ℕ → List Header
kind_fields text = (codes "content-type", text) ∷ ((codes "connection", codes "close") ∷ [])

-- RFC 9110, section 15.5.6; RFC 9111, section 5.2.2.5
abbrev pub handling_fields : List Header
handling_fields = (codes "allow", codes "GET, HEAD") ∷ ((codes "cache-control", codes "no-store") ∷ [])

-- Content Security Policy Level 3
abbrev pub policy_for : Kind → List ℕ
policy_for kind.Html = PAGE_POLICY.now
policy_for kind.Metrics = OTHER_POLICY.now
policy_for kind.Json = OTHER_POLICY.now
policy_for kind.Svg = OTHER_POLICY.now
policy_for kind.Plain = OTHER_POLICY.now

abbrev pub guard_fields : List ℕ → List Header
guard_fields policy =
    (codes "content-security-policy", policy)
    ∷ ((codes "x-content-type-options", codes "nosniff") ∷ [])

abbrev pub fields_for : Kind → List Header
fields_for k = kind_fields (kind_text k) ++ (handling_fields ++ guard_fields (policy_for k))

-- the response has the status, the kind and the body of the answer
abbrev pub IsSent : Seen → Response → Type 0
IsSent seen response =
    IsResponse (status_number seen.verdict) (fields_for seen.kind) seen.body response

abbrev pub value_of : Option FieldValue → List ℕ
value_of (Some value) = value.bytes
value_of None = []

-- the value of the `Host` field; none: no byte
abbrev pub host_in : Parts → List ℕ
host_in head = value_of (get head.headers (codes "host"))

-- what a head asks for: only under a known name is anything told
abbrev pub asked_in : List ℕ → Parts → Target
asked_in name head = if is_known_host name (host_in head)
    then asked_by head.method (uri_path head.uri) else asked.Misdirected

-- the response is an answer to what is asked, by what the unit said last
abbrev pub Tells : Target → Option Said → Response → Type 0
Tells asked said response = (seen : Seen) × IsAnswer asked said seen × IsSent seen response

abbrev pub IsTold : List ℕ → Option Said → Request (List ℕ) → Response → Type 0
IsTold name said request response = Tells (asked_in name (head_of request)) said response
