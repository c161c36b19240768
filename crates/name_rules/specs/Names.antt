-- Names that no attribute may have (scope, "Refusal numbers", 11).
use Rattle.std.specs.Prelude.{Bool, ◌&&◌, ◌||◌}
use Rattle.text.specs.Text.{Text, text, eq_text}
use Rattle.spec_exi.specs.Tables.{xsi_uri}

-- nil or type in the XMLSchema-instance URI.
unfoldable pub is_reserved : Text → Text → Bool
is_reserved u x = eq_text u xsi_uri && (eq_text x (text "nil") || eq_text x (text "type"))
