-- What endpoints are called.
use Rattle.std.specs.Prelude.{ℕ, List, map, Option, if◌then◌else◌}
use Rattle.std.specs.Char.{is_ascii_graphic}
use Rattle.std.specs.Fmt.{decimal}
use Rattle.std.specs.List.{enumerate_from}
use Rattle.std.specs.Option.{option_map_or, option_or}
use Rattle.settings_toml.specs.SettingsFile.{text_bytes}
use Rattle.settings_toml.specs.declared.settings_file.ClientText.{ClientText}

-- what the file calls an endpoint: by its `name`, else by the `cname` that it has of its own
abbrev pub called_in : ClientText → Option (List ℕ)
called_in text = option_or (text_bytes text.name) (text_bytes text.cname)

-- what isn't printed, a space too, is an underscore, so that a name is one word of a line
abbrev pub word_byte : ℕ → ℕ
word_byte b = if is_ascii_graphic b then b else 95

-- what the endpoint with this number is called: that, or else its number
abbrev pub name_of_endpoint : ℕ → ClientText → List ℕ
name_of_endpoint number text = option_map_or (map word_byte) (called_in text) (decimal number)

abbrev pub numbered_name : ℕ × ClientText → List ℕ
numbered_name e = name_of_endpoint e.0 e.1

abbrev pub endpoint_names : List ClientText → List (List ℕ)
endpoint_names texts = map numbered_name (enumerate_from 0 texts)
