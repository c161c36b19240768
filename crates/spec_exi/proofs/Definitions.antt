-- Every definition that a worked example computes with, opened by one name.
use Rattle.spec_fields.specs.Bits.{bits_of, value_of, each, unpack, octets_from, octets_for, pack}
use Rattle.spec_fields.specs.Bits.{all_zero, is_padding}
use Rattle.spec_fields.specs.Refusal.{number_of}
use Rattle.spec_fields.specs.Parser.{return, fail, present, need, and_then, ◌>>=◌, ◌>>◌, times}
use Rattle.spec_fields.specs.Field.{bit, octet, little_endian, little_value, number_bits, number_field}
use Rattle.spec_fields.specs.Field.{width_from, width, choice_bits, choice, max_octets, max_unsigned}
use Rattle.spec_fields.specs.Field.{groups, unsigned_bits, grouped, unsigned}
use Rattle.text.specs.Text.{text, eq_text, is_empty, is_char, all_chars, inside, part}
use Rattle.text.specs.Names.{is_letter, is_xml, has_pair, ends_in}
use Rattle.text.proofs.Names.{name_definitions}
use Rattle.spec_exi.specs.Sizes.{max_stream, max_events, max_open, max_uris, max_names, max_values}
use Rattle.spec_exi.specs.Sizes.{max_grammars, max_learned, max_string, max_store}
use Rattle.spec_exi.specs.Sizes.{reader_work, event_cells, writer_work}
use Rattle.spec_exi.specs.Settings.{meaningful, bound_of, settings_of, header_of}
use Rattle.spec_exi.specs.Event.{kind_of, name_of, strings_of, map_name, map_event, eq_name}
use Rattle.spec_exi.specs.Tables.{name_text, event_text, span_of, partition, names_of, values_of}
use Rattle.spec_exi.specs.Tables.{all_values, has_text, index_of, partitions_of, eq_form, hit_or}
use Rattle.spec_exi.specs.Tables.{first_hit, form_of, string_bits, form_bits, new_uri, new_name}
use Rattle.spec_exi.specs.Tables.{new_entry, new_value, laid, added, tables_after, xml_uri}
use Rattle.spec_exi.specs.Tables.{xsi_uri, initial_entries, added_all, start_tables, name_allowed}
use Rattle.spec_exi.specs.Tables.{text_allowed, replaced, global_id, gone, present_values}
use Rattle.spec_exi.specs.Tables.{slot_after, local_slots, by_number, at_most, is_zero, joins}
use Rattle.spec_exi.specs.Tables.{with_values}
use Rattle.spec_exi.specs.Grammar.{unnamed, kind_number, is_wildcard, fits_name, fits}
use Rattle.spec_exi.specs.Grammar.{open_elements, eq_site, site_of, learned_in, learned_at, kept}
use Rattle.spec_exi.specs.Grammar.{levels_with, levels, all_empty, choices, at_level, below}
use Rattle.spec_exi.specs.Grammar.{code_bits, raised, first_fit, code_or, code_of, same_code}
use Rattle.spec_exi.specs.Grammar.{has_kind, teaches, taught, learn, has_name, with_grammar}
use Rattle.spec_exi.specs.Grammar.{outermost}
use Rattle.spec_exi.specs.Grammar.{grammars_after, in_content, closed, state_after, empty_tag}
use Rattle.spec_exi.specs.Grammar.{is_attribute, attribute_name, with_attribute, tag_after, is_new}
use Rattle.spec_exi.specs.Grammar.{tag_allows, is_finished}
use Rattle.spec_exi.specs.Context.{start, levels_in, item, character_role, name_items, items}
use Rattle.spec_exi.specs.Context.{after_item, after_items, after, entry_of, entries_of}
use Rattle.spec_exi.specs.Context.{after_code, next, context_after}
use Rattle.spec_exi.specs.Strict.{item_bits, items_bits, coded_bits, event_bits, list_bits, strict}
use Rattle.spec_exi.specs.Lists.{every, names_allowed, texts_allowed, chars_only, within_tables}
use Rattle.spec_exi.specs.Lists.{within_grammars, within, stays_within, short, short_strings}
use Rattle.spec_exi.specs.Reader.{read_character, read_literal, read_hit, read_in, read_by_literals}
use Rattle.spec_exi.specs.Reader.{read_entry, read_form, read_string, readName, readContent}
use Rattle.spec_exi.specs.Reader.{read_part, read_code, step, following, ending, onward}
use Rattle.spec_exi.specs.Reader.{read_events, read_header, read_body, read_stream, enough_to_read}
use Rattle.spec_exi.specs.Reader.{read_sized, read, list_of, read_reply}
use Rattle.spec_exi.specs.Writer.{first_failed, place_tests, string_tests, content_tests}
use Rattle.spec_exi.specs.Writer.{event_tests, fault_of, prepended, unless, write_events}
use Rattle.spec_exi.specs.Writer.{as_octets, write_list, enough_to_write, write, write_reply}
use Rattle.spec_exi.specs.Packets.{nothing_yet, with_first, firstThen, first_events, after_header}
use Rattle.spec_exi.specs.Packets.{complete, so_far, receive}
use Rattle.spec_exi.specs.Meaning.{stored_of, meant_one, together, meant}
use Rattle.spec_exi.specs.Examples.{full_to_write, full, answer_for, strict_for, reply, numbers}
use Rattle.spec_exi.specs.Examples.{in_bits, in_octets, digit, hex, octets, two_lines, example}
use Rattle.spec_exi.specs.Examples.{begin_in, begin, attr_in, attr, chars, remark, instruct}
use Rattle.spec_exi.specs.Examples.{end, whole}

-- To unfold this is to unfold what its line names.
unfoldable pub definitions : Unit {0}
unfolding bits_of value_of each unpack octets_from octets_for pack all_zero is_padding number_of return
    fail present need and_then ◌>>=◌ ◌>>◌ times bit octet little_endian little_value number_bits
    number_field width_from width choice_bits choice max_octets max_unsigned groups unsigned_bits grouped
    unsigned text eq_text is_empty is_char all_chars inside part name_definitions is_letter is_xml
    has_pair ends_in max_stream max_events max_open max_uris
    max_names max_values max_grammars max_learned max_string max_store reader_work event_cells
    writer_work meaningful bound_of settings_of header_of kind_of name_of strings_of map_name map_event eq_name
    name_text event_text span_of partition names_of replaced global_id gone present_values slot_after local_slots values_of
    by_number all_values has_text index_of partitions_of eq_form hit_or first_hit form_of string_bits form_bits new_uri new_name
    at_most is_zero joins new_entry new_value with_values laid added
    tables_after xml_uri xsi_uri initial_entries added_all start_tables name_allowed text_allowed
    unnamed kind_number
    is_wildcard fits_name fits open_elements eq_site site_of learned_in learned_at kept levels_with levels
    all_empty choices at_level below code_bits raised first_fit code_or code_of same_code has_kind teaches
    taught learn has_name with_grammar grammars_after in_content outermost closed state_after
    empty_tag is_attribute attribute_name with_attribute tag_after is_new tag_allows is_finished start
    levels_in item character_role name_items items after_item after_items after entry_of entries_of
    after_code next context_after item_bits items_bits coded_bits event_bits list_bits strict every
    names_allowed texts_allowed chars_only within_tables within_grammars within stays_within short short_strings
    read_character read_literal read_hit read_in read_by_literals read_entry read_form read_string readName
    readContent read_part read_code step following ending onward read_events read_header read_body
    read_stream enough_to_read read_sized read list_of read_reply first_failed place_tests string_tests
    content_tests event_tests fault_of prepended unless write_events as_octets write_list enough_to_write
    write write_reply nothing_yet with_first firstThen first_events after_header complete so_far receive
    stored_of meant_one together meant full full_to_write answer_for strict_for reply numbers in_bits in_octets digit
    hex octets two_lines example begin_in begin attr_in attr chars remark instruct end whole
definitions = tt
