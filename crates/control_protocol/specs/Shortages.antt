-- When the control says that no descriptor is left for who connects.
use Rattle.std.specs.Prelude.{◌≡◌, ◌⊎◌, ℕ, ℤ, List, Option, Some, codes}
use Rattle.control_protocol.specs.declared.shortage.TheConstants.{PROCESS_FULL, SYSTEM_FULL}

-- the system's number of a fault, if it has one, means that no descriptor is left to the process (EMFILE), or to anybody (ENFILE)
abbrev pub IsShortage : Option ℤ → Type 0
IsShortage code = (code ≡ Some PROCESS_FULL) ⊎ (code ≡ Some SYSTEM_FULL)

-- what is said then
abbrev pub shortage_line : List ℕ
shortage_line = codes "control: no descriptors\n"
