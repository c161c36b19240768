-- What is proved, of every input (demands 1 to 3, in words in docs/CLAIMS.md). The record
-- `Theorems` at the end is proved whole: proofs/Claims.antt has a line for each claim, which points
-- to its proof.
--
-- `read`, `write` and `receive` are the answers by definition (crates/spec_exi/specs: Reader,
-- Writer, Packets). reader::read and writer::write give them outright, by their contracts, and with
-- them every lent cell. Claims/Words.antt says where each word is defined.
-- o: settings' numbers; r, p: lengths of lent parts; xs, store: a list as it lies in memory.
mod Words
use Words.*

-- ---- demand 1: any octets, and any list, get an answer in the scope's numbers

-- The reader's reply. PLACE is the writer's; ROOM, SETTINGS and LONG come first.
pub record Demand1Reader (r : ReaderRoom) (o : SettingNumbers) (stream : List ℕ) (y : ReadReply)
    : Type 0 where
  pub numbers : y.number ≤ number_of shape
  pub no_room : (y.number ≡ number_of room) ↔ T (not (enough_to_read sizes r))
  pub no-meaning : (y.number ≡ number_of settings)
      ↔ (T (enough_to_read sizes r) × T (not (meaningful o)))
  pub too_long : (y.number ≡ number_of long)
      ↔ (T (enough_to_read sizes r) × T (meaningful o) × (max_stream < length stream))
  -- The index counts the complete events; it is 0 on success and for 1 to 4.
  pub index : number_of header ≤ y.number
      → y.index ≡ length (complete (settings_of o) stream).events
  pub no_index : y.number ≤ number_of header → y.index ≡ 0
  -- The counts are those of the reading, and 0 after a refusal.
  pub counts : (x : Reading) → read r o stream ≡ accepted x
      → (y.events ≡ length x.events) × (y.code_points ≡ length x.store)
  pub no-counts : 0 < y.number → (y.events ≡ 0) × (y.code_points ≡ 0)
  pub bounded : (y.index ≤ max_events) × (y.events ≤ max_events) × (y.code_points ≤ max_store)

-- The writer's reply. ROOM and SETTINGS come first; LONG comes last, where all else passes.
pub record Demand1Writer (r : WriterRoom) (o : SettingNumbers) (xs : List Stored) (store : Text)
    (y : WriteReply) : Type 0 where
  pub numbers : T (is_zero_or
      (room ∷ settings ∷ long ∷ character ∷ name ∷ limit ∷ shape ∷ place ∷ []) y.number)
  pub no_room : (y.number ≡ number_of room) ↔ T (not (enough_to_write sizes r))
  pub no-meaning : (y.number ≡ number_of settings)
      ↔ (T (enough_to_write sizes r) × T (not (meaningful o)))
  pub too_long : (y.number ≡ number_of long)
      ↔ (T (enough_to_write sizes r) × T (meaningful o) × TooLong (settings_of o) xs store)
  -- The index is that of an event of the list, or its length; 0 on success and for 1 to 3.
  pub index : y.index ≤ length xs
  pub no_index : y.number ≤ number_of long → y.index ≡ 0
  -- The count is that of the octets, and 0 after a refusal.
  pub counts : (stream : List ℕ) → write r o xs store ≡ accepted stream → y.octets ≡ length stream
  pub no-counts : 0 < y.number → y.octets ≡ 0
  pub bounded : y.octets ≤ max_stream

-- ---- demand 2: the writer gives the strict form exactly for the good lists, reading it returns
-- the list, and what the reader accepts the writer gives back octet for octet
pub record Demand2 (r : WriterRoom) (p : ReaderRoom) (o : SettingNumbers) : Type 0 where
  pub written-when-zero : (xs : List Stored) (store : Text)
      → ((write_reply (write r o xs store)).number ≡ 0)
      ↔ ((stream : List ℕ) × (write r o xs store ≡ accepted stream))
  pub written : (xs : List Stored) (store : Text) (stream : List ℕ)
      → (write r o xs store ≡ accepted stream) ↔ ((T (enough_to_write sizes r) × T (meaningful o))
      × ((l : List (Event Text)) × (meant store xs ≡ some l) × Good (settings_of o) l
      × (stream ≡ strict (settings_of o) l)))
  pub read_back : (xs : List Stored) (store : Text) (l : List (Event Text)) (stream : List ℕ)
      → T (enough_to_read sizes p) → meant store xs ≡ some l → write r o xs store ≡ accepted stream
      → Accepts p o stream l
  pub written_back : (stream : List ℕ) (x : Reading) → T (enough_to_write sizes r)
      → AreOctets stream → read p o stream ≡ accepted x
      → write r o (map stored_of x.events) x.store ≡ accepted stream

-- ---- demand 3: accepted are exactly the strict forms of good lists; each stream has one list,
-- each list one stream, and no accepted stream begins a longer one
pub record Demand3 (r : ReaderRoom) (o : SettingNumbers) : Type 0 where
  pub accepted-when-zero : (stream : List ℕ)
      → ((read_reply (read r o stream)).number ≡ 0) ↔ ((l : List (Event Text)) × Accepts r o stream l)
  pub exact : (stream : List ℕ) (l : List (Event Text)) → AreOctets stream → Accepts r o stream l
      ↔ (T (enough_to_read sizes r) × T (meaningful o) × Good (settings_of o) l
      × (stream ≡ strict (settings_of o) l))
  pub one_list : (l m : List (Event Text)) → Good (settings_of o) l → Good (settings_of o) m
      → strict (settings_of o) l ≡ strict (settings_of o) m → l ≡ m
  pub one-stream : (a b : List ℕ) (l : List (Event Text)) → AreOctets a → AreOctets b
      → Accepts r o a l → Accepts r o b l → a ≡ b
  pub no-prefix : (a b : List ℕ) (l m : List (Event Text)) → AreOctets (a ++ b)
      → Accepts r o a l → Accepts r o (a ++ b) m → b ≡ []

-- ---- where the strings lie: looked up in the store each is itself, and the store is the initial
-- entries and the literals of the strict form, and nothing else
pub record Lookup (s : Settings) (x : Reading) : Type 0 where
  pub texts : meant x.store (map stored_of x.events) ≡ some (map event_text x.events)
  pub store : x.store ≡ (context_after s (start s) (map event_text x.events)).tables.store

-- ---- larger sizes take nothing away: the reading stays, with its places and its store, each side
-- with memory enough for its own sizes
pub record LargerSizes (y z : Sizes) : Type 0 where
  pub accepted-still : (p r : ReaderRoom) (o : SettingNumbers) (stream : List ℕ) (x : Reading)
      → T (enough_to_read z r) → read_sized y p o stream ≡ accepted x
      → read_sized z r o stream ≡ accepted x

-- ---- equal attributes (02, P3): of the lists that are well-formed by all other rules, just those
-- are lost that have two attributes of one name in a start tag
pub record EqualAttributesLost (s : Settings) (l : List (Event Text)) : Type 0 where
  pub well-formed : WellFormed s l ↔ (BaseWellFormed s l × (EqualAttributes l → ⊥))

-- ---- all of it, of every input
pub record Theorems : Type 0 where
  pub demand-1-reader : (r : ReaderRoom) (o : SettingNumbers) (stream : List ℕ)
      → Demand1Reader r o stream (read_reply (read r o stream))
  pub demand-1-writer : (r : WriterRoom) (o : SettingNumbers) (xs : List Stored) (store : Text)
      → Demand1Writer r o xs store (write_reply (write r o xs store))
  pub demand-2 : (r : WriterRoom) (p : ReaderRoom) (o : SettingNumbers) → Demand2 r p o
  pub demand-3 : (r : ReaderRoom) (o : SettingNumbers) → Demand3 r o
  pub lookup : (r : ReaderRoom) (o : SettingNumbers) (stream : List ℕ) (x : Reading)
      → read r o stream ≡ accepted x → Lookup (settings_of o) x
  pub larger-sizes : (y z : Sizes) → NoLarger y z → LargerSizes y z
  -- from the scope's own sizes to ours
  pub scope-sizes : LargerSizes base_sizes sizes
  pub equal-attributes : (s : Settings) (l : List (Event Text)) → EqualAttributesLost s l
  -- a value that is added, in EXI 7.3.3's words (02, P5)
  pub value-rules : ValueRules
  -- K1 to K12, their replies in numbers, each number pinned, examples by topic, and at the sizes.
  pub worked-examples : WorkedExamples
  pub at-sizes : Written at_sizes
