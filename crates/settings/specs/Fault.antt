-- The keys of settings as they are spelled, and the numbers of refusals as texts show them.
use Rattle.std.specs.Prelude.{ℕ, List, codes}
use Rattle.settings.specs.declared.fault.Key.{Key}
use Rattle.settings.specs.declared.fault.Key.TheVariants as keys
use Rattle.settings.specs.declared.fault.SettingsFault.{SettingsFault}
use Rattle.settings.specs.declared.fault.SettingsFault.TheVariants.{Top, Endpoint, Leg, SameSsrc}
use Rattle.settings.specs.declared.fault.SettingsFault.TheVariants as settings
use Rattle.settings.specs.declared.fault.RoomFault.{RoomFault}
use Rattle.settings.specs.declared.fault.RoomFault.TheVariants.{UnknownEndpoint, WrongSsrc, UnknownLeg, StaysSpent, NoMemory}

abbrev pub settings_fault_number : SettingsFault → ℕ
settings_fault_number (Top key) = 1
settings_fault_number (Endpoint k key) = 2
settings_fault_number (Leg k key) = 3
settings_fault_number SameSsrc = 4
settings_fault_number settings.NoMemory = 5

abbrev pub room_fault_number : RoomFault → ℕ
room_fault_number UnknownEndpoint = 1
room_fault_number WrongSsrc = 2
room_fault_number UnknownLeg = 3
room_fault_number StaysSpent = 4
room_fault_number NoMemory = 5

abbrev pub key_name : Key → List ℕ
key_name keys.Cname = codes "cname"
key_name keys.Endpoint = codes "endpoint"
key_name keys.FirstSeq = codes "first_seq"
key_name keys.History = codes "history"
key_name keys.Leg = codes "leg"
key_name keys.OutSsrc = codes "out_ssrc"
key_name keys.PliGapMs = codes "pli_gap_ms"
key_name keys.Publisher = codes "publisher"
key_name keys.ReportMs = codes "report_ms"
key_name keys.ReportSlots = codes "report_slots"
key_name keys.RequestMs = codes "request_ms"
key_name keys.Ring = codes "ring"
key_name keys.Ssrc = codes "ssrc"
key_name keys.Subscriber = codes "subscriber"
key_name keys.TimeoutMs = codes "timeout_ms"
key_name keys.UnitSsrc = codes "unit_ssrc"
key_name keys.Workers = codes "workers"
