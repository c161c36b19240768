-- What names and texts are judged by, opened by one name.
use Rattle.text.specs.Text.{text}
use Rattle.spec_fields.specs.Refusal.{number_of}
use Rattle.spec_exi.specs.Tables.{name_allowed, text_allowed, xsi_uri}
use Rattle.name_rules.specs.Names.{is_reserved}
use Rattle.name_rules.specs.Texts.{role_in, fault_of, fault_in}

-- To unfold this is to unfold what its line names.
unfoldable pub rules_of_names : Unit {0}
unfolding text xsi_uri is_reserved name_allowed text_allowed role_in fault_of fault_in number_of
rules_of_names = tt
