-- What a settings file gives to a unit that listens.
use Rattle.std.specs.Prelude.{◌≡◌, ◌⊎◌, ℕ, Bool, false, true, List, Option, Some, None, Ok, Err}
use Rattle.std.specs.Option.{option_map_or}
use Rattle.std.specs.Net.Grammar.{IsSocketText}
use Rattle.std.specs.Net.Addr.{is_ipv4}
use Rattle.std.specs.Net.Socket.{socket_ip}
use Rattle.std.specs.String.{string_bytes}
use Rattle.std.specs.declared.string.String.{String}
use Rattle.policy.specs.declared.rules.Rules.{Rules}
use Rattle.settings_toml.specs.declared.bound_keys.BoundKeys.{BoundKeys}
use Rattle.std.specs.declared.net.socket_addr.SocketAddr.{SocketAddr}
use Rattle.addresses.specs.Clients.{AreSpelled, Spells}
use Rattle.addresses.specs.Mixed.{mixed_spot}
use Rattle.settings_toml.specs.SettingsFaults.{TextGives}
use Rattle.addresses.specs.declared.served_file.ServedSettings.{ServedSettings}
use Rattle.settings_toml.specs.declared.settings_file.FileSettings.{FileSettings}
use Rattle.settings_toml.specs.declared.settings_file.SettingsProblem.{SettingsProblem}
use Rattle.settings_toml.specs.declared.settings_file.SettingsProblem.TheVariants.{NoMemory, File, Toml, Top, Endpoint, Leg, SameSsrc}

-- what is looked at, if a file says so: sources that begin anew go unnoticed unless it says otherwise, and feedback has to name
-- the endpoint's own source; what one client may cost the others; how often a publisher is asked again; and how much of a stall counts
abbrev pub rules_in : Option Bool → Option Bool → BoundKeys → Rules
rules_in new_starts strict_ssrc bounds = record {
  new_starts = option_map_or (λ b. b) new_starts false;
  strict_ssrc = option_map_or (λ b. b) strict_ssrc true;
  resends = record { gap_ms = bounds.resend_gap_ms; share = bounds.resend_share };
  entry_limit = bounds.entry_limit;
  flood_limit = bounds.flood_limit;
  request_gap_ms = bounds.request_gap_ms;
  repeat_ms = bounds.repeat_ms;
  stall_ms = bounds.stall_ms;
}

-- where RTCP is listened for apart: nowhere without a text, else where it spells, with the same version of IP
abbrev pub ListensApart : {A : Type 0} → SocketAddr → Option (String A) → Option SocketAddr
    → Type 0
ListensApart media None apart = apart ≡ None
ListensApart media (Some text) apart =
    (address : SocketAddr) × IsSocketText (string_bytes text) address × (apart ≡ Some address)
    × (is_ipv4 (socket_ip address) ≡ is_ipv4 (socket_ip media))

-- The settings of the file, with the addresses that its texts spell, which go together.
pub record PlacesFile (same : SocketAddr → SocketAddr → Bool) (file : FileSettings)
    (s : ServedSettings) : Type 0 where
  pub settings : s.settings ≡ file.settings
  pub listen : Spells file.listen s.listen.media
  pub rules : s.rules ≡ rules_in file.new_starts file.strict_ssrc file.bounds
  pub tick_ms : s.tick_ms ≡ file.tick_ms
  pub listen_rtcp : ListensApart s.listen.media file.listen_rtcp s.listen.rtcp
  pub texts : s.texts ≡ file.clients
  pub clients : AreSpelled same s.listen file.clients.items (Ok s.clients.items)
  pub unmixed : mixed_spot same s.clients.items file.clients.items ≡ None

-- The text gives these settings and addresses.
pub record GivesPlaces (same : SocketAddr → SocketAddr → Bool) (text : List ℕ)
    (s : ServedSettings) : Type 0 where
  pub file : FileSettings
  pub gives : TextGives text (Ok file)
  pub places : PlacesFile same file s

-- ---- what is said against a text

-- a fault of a key, of the sources, or want of memory
abbrev pub IsPlacedFault : SettingsProblem → Type 0
IsPlacedFault NoMemory = Unit {0}
IsPlacedFault File = ⊥
IsPlacedFault Toml = ⊥
IsPlacedFault (Top key) = Unit {0}
IsPlacedFault (Endpoint number key) = Unit {0}
IsPlacedFault (Leg number key) = Unit {0}
IsPlacedFault SameSsrc = Unit {0}

-- the problem that was found, or such a fault
abbrev pub IsPlacedOr : SettingsProblem → SettingsProblem → Type 0
IsPlacedOr found said = (said ≡ found) ⊎ IsPlacedFault said

-- A fault of a key, of the sources, want of memory, or what the text alone gives. So it is never that a file can't be read, and that
-- it is no TOML document only of a text that is none.
abbrev pub IsServedFault : List ℕ → SettingsProblem → Type 0
IsServedFault text said = TextGives text (Err said) ⊎ IsPlacedFault said
