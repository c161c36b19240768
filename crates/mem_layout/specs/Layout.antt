-- Where everything lies in work memory. The code's constants have the same names (src/lib.rt); the
-- contracts of the functions that use them hold each to its number here.
use Rattle.std.specs.Prelude.{ℕ}

-- ---- heads of chains, a cell for each bucket

-- values by text
abbrev pub value_text_heads : ℕ
value_text_heads = 0

-- values by owner and number
abbrev pub value_code_heads : ℕ
value_code_heads = 1024

-- learned productions by site, kind and name
abbrev pub learned_name_heads : ℕ
learned_name_heads = 2048

-- learned productions by site and number
abbrev pub learned_code_heads : ℕ
learned_code_heads = 2304

-- names by URI and text
abbrev pub name_text_heads : ℕ
name_text_heads = 2560

-- names by URI and number
abbrev pub name_code_heads : ℕ
name_code_heads = 2624

-- ---- counts, a cell for each owner: zero at the start

-- the first of them
abbrev pub zero_from : ℕ
zero_from = 2688

-- values ever added of a name
abbrev pub value_counts : ℕ
value_counts = 2688

-- learned productions of a site
abbrev pub learned_counts : ℕ
learned_counts = 2816

-- whether a name has an element grammar
abbrev pub grammar_flags : ℕ
grammar_flags = 3074

-- names of a URI
abbrev pub name_counts : ℕ
name_counts = 3202

-- a mark of each name (equal attributes)
abbrev pub name_marks : ℕ
name_marks = 3218

-- prefixes of a URI
abbrev pub prefix_counts : ℕ
prefix_counts = 3346

-- names that are counted (grammar cap)
abbrev pub counted_names : ℕ
counted_names = 3362

-- the end of what is zero at the start
abbrev pub zero_to : ℕ
zero_to = 3490

-- ---- URIs: place, size, first row of the text

abbrev pub uri_places : ℕ
uri_places = 3490

abbrev pub uri_sizes : ℕ
uri_sizes = 3506

abbrev pub uri_firsts : ℕ
uri_firsts = 3522

-- ---- names: place, size, code (URI * 16384 + number), next by text, next by code, first row of
-- the text

abbrev pub name_places : ℕ
name_places = 3538

abbrev pub name_sizes : ℕ
name_sizes = 3666

abbrev pub name_codes : ℕ
name_codes = 3794

abbrev pub name_text_nexts : ℕ
name_text_nexts = 3922

abbrev pub name_code_nexts : ℕ
name_code_nexts = 4050

abbrev pub name_firsts : ℕ
name_firsts = 4178

-- ---- learned productions: code (site * 16384 + kind * 128 + name), its next, code (site * 16384 +
-- number), its next, the rows of the URI and the name that named it

abbrev pub learned_name_codes : ℕ
learned_name_codes = 4306

abbrev pub learned_name_nexts : ℕ
learned_name_nexts = 4818

abbrev pub learned_codes : ℕ
learned_codes = 5330

abbrev pub learned_code_nexts : ℕ
learned_code_nexts = 5842

abbrev pub learned_uri_rows : ℕ
learned_uri_rows = 6354

abbrev pub learned_name_rows : ℕ
learned_name_rows = 6866

-- ---- values: place, size, next by text, code (owner * 16384 + number), its next

abbrev pub value_places : ℕ
value_places = 7378

abbrev pub value_sizes : ℕ
value_sizes = 9426

abbrev pub value_text_nexts : ℕ
value_text_nexts = 11474

abbrev pub value_codes : ℕ
value_codes = 13522

abbrev pub value_code_nexts : ℕ
value_code_nexts = 15570

-- ---- prefixes

abbrev pub prefixes : ℕ
prefixes = 17618

-- ---- in all

-- the layout's end
abbrev pub layout_cells : ℕ
layout_cells = 17746

-- lent
abbrev pub work_cells : ℕ
work_cells = 18432

-- ---- rows of the tables, buckets of the chains, owners of the counts

-- values lie at their number modulo the ring
abbrev pub value_ring : ℕ
value_ring = 2048

abbrev pub value_buckets : ℕ
value_buckets = 1024

abbrev pub learned_rows : ℕ
learned_rows = 512

abbrev pub learned_buckets : ℕ
learned_buckets = 256

abbrev pub name_rows : ℕ
name_rows = 128

abbrev pub name_buckets : ℕ
name_buckets = 64

abbrev pub uri_rows : ℕ
uri_rows = 16

-- rows of the initial entries
abbrev pub opening_uris : ℕ
opening_uris = 3

abbrev pub opening_names : ℕ
opening_names = 6

-- sites at which productions are learned: two a name, a fragment's content, and one more
abbrev pub sites : ℕ
sites = 258

-- that of a fragment's content
abbrev pub fragment_site : ℕ
fragment_site = 256
