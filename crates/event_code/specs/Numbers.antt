-- States and kinds as numbers, and which event teaches a production (EXI 8.4.2, 8.4.3) by them.
use Rattle.std.specs.Prelude.{ℕ, Bool, ◌&&◌, ◌||◌, eqb, leb}
use Rattle.spec_exi.specs.Grammar.{State, document, doc_content, doc_end, finished, start_tag}
use Rattle.spec_exi.specs.Grammar.{fragment_content, element_content}

-- ---- states and kinds: src/lib.rt has the same names

abbrev pub in_document : ℕ
in_document = 0

abbrev pub in_doc_content : ℕ
in_doc_content = 1

abbrev pub in_doc_end : ℕ
in_doc_end = 2

abbrev pub is_over : ℕ
is_over = 3

-- From here on something is learned.
abbrev pub in_fragment : ℕ
in_fragment = 4

-- And from here on an element is open.
abbrev pub in_tag : ℕ
in_tag = 5

abbrev pub in_element : ℕ
in_element = 6

-- The kinds' are the definitions' `kind_number`, written out.
abbrev pub number_of_sd : ℕ
number_of_sd = 0

abbrev pub number_of_ed : ℕ
number_of_ed = 1

abbrev pub number_of_se : ℕ
number_of_se = 2

abbrev pub number_of_at : ℕ
number_of_at = 3

abbrev pub number_of_ee : ℕ
number_of_ee = 4

abbrev pub number_of_ch : ℕ
number_of_ch = 5

abbrev pub number_of_cm : ℕ
number_of_cm = 6

abbrev pub number_of_pi : ℕ
number_of_pi = 7

-- So many kinds.
abbrev pub kinds : ℕ
kinds = 8

-- The number of each state of the definitions.
unfoldable pub mode_of : State → ℕ
mode_of document = in_document
mode_of doc_content = in_doc_content
mode_of doc_end = in_doc_end
mode_of finished = is_over
mode_of fragment_content = in_fragment
mode_of (start_tag q outer) = in_tag
mode_of (element_content q outer) = in_element

-- ---- what is learned

-- Whether an event of this kind, with a code that is not learned, puts a production at 0.
unfoldable pub teaches_in : ℕ → ℕ → Bool
teaches_in mode kind =
    (eqb mode in_tag && leb number_of_se kind && leb kind number_of_ch)
    || (eqb mode in_element && (eqb kind number_of_se || eqb kind number_of_ch))
    || (eqb mode in_fragment && eqb kind number_of_se)
