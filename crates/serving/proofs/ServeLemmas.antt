-- How a unit that was to be served ends, and what is said of it.
use Rattle.std.proofs.Common.{◌≡◌, ◌≢◌, ℕ, List, [], Option, None, Some, Result, Ok, Err, OnOk, IfErr, MatchResult, codes, refl, subst, sym, inl, inr}
use Rattle.std.proofs.lemmas.List.{append-nil}
use Rattle.std.specs.Io.KnownBytes.{Appends, Keeps, append_known}
use Rattle.std.specs.declared.net.socket_addr.SocketAddr.{SocketAddr}
use Rattle.settings.specs.Settings.{Configuration}
use Rattle.cli.specs.Statuses.{EndsSaying, IsUnsaid, SaysWhy}
use Rattle.serving.specs.ReportText.{PrintsReport}
use Rattle.serving.specs.Serving.{EndsServe, FailsServe, FailsToStart, SaysFault, SaysWhyServing, serving_line}
use Rattle.serving.specs.declared.serve_fault.ServeFault.{ServeFault}
use Rattle.cli.specs.declared.status.Status.{Status}
use Rattle.cli.specs.declared.status.Status.TheVariants as status

pub keeps_itself : (known : Option (List ℕ)) → Keeps known known
keeps_itself None = tt
keeps_itself (Some xs) = refl

-- what is said after a notice is said after what was there and the notice
said_behind : (old mid new : Option (List ℕ)) (notice : List ℕ) (s : Status) → Appends old mid notice → SaysWhy mid new s → SaysWhy (append_known old notice) new s
said_behind None mid new notice s there said = record {
  done = λ _. tt;
  no_memory = λ _. tt;
  io = λ _. tt;
  socket = λ _. tt;
}
said_behind (Some xs) None new notice s there said = absurd there
said_behind (Some xs) (Some ys) new notice s there said = subst (λ zs. SaysWhy (Some zs) new s) there said

-- nothing before it
said_alone : (old new : Option (List ℕ)) (s : Status) → SaysWhy old new s → SaysWhy (append_known old []) new s
said_alone None new s said = said
said_alone (Some xs) new s said = subst (λ zs. SaysWhy (Some zs) new s) (sym (append-nil xs)) said

-- ---- a unit that isn't served

unsaid_why : (old new : Option (List ℕ)) (s : Status) → IsUnsaid s → FailsToStart old new s
unsaid_why old new status.UnsaidNoMemory is = record {
  failed = λ e. cc;
  understood = λ e. cc;
  read = (λ e. cc, λ e. cc);
  said = record { done = λ e. cc; no_memory = λ e. cc; io = λ e. cc; socket = λ e. cc };
}
unsaid_why old new status.UnsaidIo is = record {
  failed = λ e. cc;
  understood = λ e. cc;
  read = (λ e. cc, λ e. cc);
  said = record { done = λ e. cc; no_memory = λ e. cc; io = λ e. cc; socket = λ e. cc };
}
unsaid_why old new status.Done is = absurd is
unsaid_why old new status.NoMemory is = absurd is
unsaid_why old new status.CommandLine is = absurd is
unsaid_why old new status.Settings is = absurd is
unsaid_why old new status.Refused is = absurd is
unsaid_why old new status.Io is = absurd is
unsaid_why old new status.Socket is = absurd is
unsaid_why old new status.Control is = absurd is
unsaid_why old new status.Record is = absurd is

no_memory_said : (old new : Option (List ℕ)) (s : Status) → s ≡ status.NoMemory → Appends old new (codes "no memory\n") → FailsToStart old new s
no_memory_said old new status.NoMemory is there = record {
  failed = λ e. cc;
  understood = λ e. cc;
  read = (λ e. cc, λ e. cc);
  said = record { done = λ e. cc; no_memory = λ e. there; io = λ e. cc; socket = λ e. cc };
}
no_memory_said old new status.Done is there = cc
no_memory_said old new status.CommandLine is there = cc
no_memory_said old new status.Settings is there = cc
no_memory_said old new status.Refused is there = cc
no_memory_said old new status.Io is there = cc
no_memory_said old new status.Socket is there = cc
no_memory_said old new status.Control is there = cc
no_memory_said old new status.Record is there = cc
no_memory_said old new status.UnsaidNoMemory is there = cc
no_memory_said old new status.UnsaidIo is there = cc

pub no_memory : (old new : Option (List ℕ)) (s : Status) → EndsSaying status.NoMemory (codes "no memory\n") old new s → FailsToStart old new s
no_memory old new s (inl said) = no_memory_said old new s said.0 said.1
no_memory old new s (inr is) = unsaid_why old new s is

pub ends_early : (settings : Configuration) (tick_ms turns : ℕ) (printed old new : Option (List ℕ)) (s : Status) → FailsToStart old new s
    → EndsServe settings tick_ms turns printed printed s
ends_early settings tick_ms turns printed old new s fails = record {
  done = λ is. absurd (fails.failed is);
  socket = λ is. keeps_itself printed;
  understood = fails.understood;
  read = fails.read;
}

pub says_early : (old new : Option (List ℕ)) (s : Status) → FailsToStart old new s → SaysWhyServing old new s
says_early old new s fails = record {
  notice = [];
  listened = inl refl;
  done = λ is. absurd (fails.failed is);
  said = said_alone old new s fails.said;
}

-- ---- a unit that listens

says_something : (address : SocketAddr) (rtcp : Option SocketAddr) → serving_line address rtcp ≢ []
says_something address None = λ empty. cc
says_something address (Some rtcp) = λ empty. cc

pub says_behind : (old mid new : Option (List ℕ)) (address : SocketAddr) (rtcp : Option SocketAddr) (s : Status)
    → Appends old mid (serving_line address rtcp) → SaysWhy mid new s → SaysWhyServing old new s
says_behind old mid new address rtcp s there said = record {
  notice = serving_line address rtcp;
  listened = inr (address, rtcp, refl);
  done = λ is. says_something address rtcp;
  said = said_behind old mid new (serving_line address rtcp) s there said;
}

pub ends_so : (settings : Configuration) (tick_ms turns asked : ℕ) (old new said_old said_new : Option (List ℕ)) (served : Result (Unit {0}) ServeFault)
    (s : Status) → turns ≡ asked → OnOk served (PrintsReport settings tick_ms turns old new) → IfErr served (FailsServe old new)
    → MatchResult served (λ _. s ≡ status.Done) (SaysFault said_old said_new s) → EndsServe settings tick_ms asked old new s
ends_so settings tick_ms turns asked old new said_old said_new (Ok u) s is prints fails ends =
    subst (λ z. EndsServe settings tick_ms asked old new z) (sym ends) (record {
      done = λ done. subst (λ n. PrintsReport settings tick_ms n old new) is prints;
      socket = λ other. cc;
      understood = λ other. cc;
      read = (λ other. cc, λ other. cc);
    })
ends_so settings tick_ms turns asked old new said_old said_new (Err why) s is prints fails ends = record {
  done = λ done. absurd (ends.fails.failed done);
  socket = λ socket. fails (ends.socket socket);
  understood = ends.fails.understood;
  read = ends.fails.read;
}

-- ---- a report that is printed

pub prints : (settings : Configuration) (tick_ms turns : ℕ) (old new : Option (List ℕ)) (text : List ℕ) (r : Result (Unit {0}) ServeFault)
    → OnOk r (Appends old new text) → (Appends old new text → PrintsReport settings tick_ms turns old new)
    → OnOk r (PrintsReport settings tick_ms turns old new)
prints settings tick_ms turns old new text (Ok u) there whole = whole there
prints settings tick_ms turns old new text (Err f) there whole = tt

-- ---- a unit that wasn't to be served after all

pub says_alone : (old new : Option (List ℕ)) (s : Status) → s ≢ status.Done → SaysWhy old new s → SaysWhyServing old new s
says_alone old new s fails said = record {
  notice = [];
  listened = inl refl;
  done = λ is. absurd (fails is);
  said = said_alone old new s said;
}
