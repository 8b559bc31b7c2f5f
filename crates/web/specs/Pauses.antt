-- How long a unit isn't asked once an inquiry failed.
use Rattle.std.specs.Prelude.{ℕ, ◌*◌, min}
use Rattle.web.specs.declared.serving.TheConstants.{MAX_PAUSE_MS}

-- how long a unit isn't asked after one more inquiry that failed: twice as long as before, and at most MAX_PAUSE_MS
abbrev pub longer_pause : ℕ → ℕ
longer_pause pause = min (pause * 2) MAX_PAUSE_MS
