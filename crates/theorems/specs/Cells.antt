-- What is proved of memory, whatever is lent and whatever lies in it (demands 1 to 3, in words in
-- docs/CLAIMS.md). The record `CellTheorems` at the end is proved whole: proofs/Cells.antt has a
-- line for each claim, which points to its proof.
--
-- The claims are of the contracts alone: ReadPost, of reader::read (crates/reader/specs/Read.antt),
-- and WritePost, of writer::write (crates/writer/specs/Write.antt). plumethrift_read and
-- plumethrift_write have the same. Calls.antt has the abbreviations (up_to, Hold, Leaves, Gives),
-- and Cells/Words.antt says where each other word is defined.
-- s: settings' numbers; m: what is lent; m': what is left in it; r: the reply.
mod Words
use Words.*

-- ---- demand 1: number, index and counts, and every lent cell

pub record Demand1Read (s : SettingNumbers) (stream : List ℕ) (m m' : ReaderLent) (r : ReadReply)
    : Type 0 where
  pub reply : Demand1Reader (reader_room m) (numbers_of s) stream (readNumbers r)
  -- A refusal has the definitions' number and index, and leaves zeros alone.
  pub refused_as : (k : Refusal) (i : ℕ) → readAnswer s stream m ≡ refused k i
      → (r.number ≡ number_of k) × (r.index ≡ i)
  pub refused-zero : 0 < r.number
      → (m'.events ≡ zeros (length m.events)) × (m'.text ≡ zeros (length m.text))
  -- Success has number 0, and leaves the cells of the events and the text store.
  pub accepted-as : (x : Reading) → readAnswer s stream m ≡ accepted x
      → (r.number ≡ 0)
      × (m'.events ≡ up_to (length m.events) (cells_of_all x.events))
      × (m'.text ≡ up_to (length m.text) x.store)
  -- Past the counts all is zero, and so is work memory.
  pub past-events : drop (cells_per_event * r.events) m'.events
      ≡ zeros (length m.events - cells_per_event * r.events)
  pub past-text : drop r.code_points m'.text
      ≡ zeros (length m.text - r.code_points)
  pub work : m'.work ≡ zeros (length m.work)

pub record Demand1Write (s : SettingNumbers) (events : List ℕ) (text : Text) (m m' : WriterLent)
    (r : WriteReply) : Type 0 where
  pub reply : Demand1Writer (writer_room m) (numbers_of s) (events_of events) text (writeNumbers r)
  pub refused_as : (k : Refusal) (i : ℕ) → writeAnswer s events text m ≡ refused k i
      → (r.number ≡ number_of k) × (r.index ≡ i)
  pub refused-zero : 0 < r.number → m'.octets ≡ zeros (length m.octets)
  pub accepted-as : (stream : List ℕ) → writeAnswer s events text m ≡ accepted stream
      → (r.number ≡ 0) × (m'.octets ≡ up_to (length m.octets) stream)
  pub past-octets : drop r.octets m'.octets ≡ zeros (length m.octets - r.octets)
  pub work : m'.work ≡ zeros (length m.work)

-- ---- demand 2: written are exactly the good lists, in their strict form; what was written is read
-- as that list, and what was read is written as those octets
pub record Demand2Cells (s : SettingNumbers) : Type 0 where
  pub cells-mean : (es : List (Event Placed)) → events_of (cells_of_all es) ≡ map stored_of es
  pub written : (events : List ℕ) (text : Text) (w : WriteCall s events text) (stream : List ℕ)
      → Gives w stream
      ↔ (CanWrite w
      × ((l : List (Event Text)) × Hold events text l × Good (asked s) l
      × (stream ≡ strict (asked s) l)))
  pub read_back : (events : List ℕ) (text : Text) (w : WriteCall s events text)
      (c : ReadCall s (octets_left w)) (l : List (Event Text)) → CanRead c
      → w.reply.number ≡ 0 → Hold events text l → Leaves c l
  pub written_back : (stream : List ℕ) (c : ReadCall s stream)
      (w : WriteCall s (events_left c) (text_left c)) → CanWrite w → AreOctets stream
      → c.reply.number ≡ 0 → Gives w stream

-- ---- demand 3: accepted are exactly the strict forms of good lists, and what is left means that
-- list; each stream has one list, each list one stream, and no accepted stream begins a longer one
pub record Demand3Cells (s : SettingNumbers) : Type 0 where
  pub a-list : (stream : List ℕ) (c : ReadCall s stream) → c.reply.number ≡ 0
      → (l : List (Event Text)) × Leaves c l
  pub exact : (stream : List ℕ) (c : ReadCall s stream) (l : List (Event Text)) → AreOctets stream
      → Leaves c l ↔ (CanRead c × Good (asked s) l × (stream ≡ strict (asked s) l))
  pub one_list : (stream : List ℕ) (c d : ReadCall s stream) (l k : List (Event Text))
      → Leaves c l → Leaves d k → l ≡ k
  pub one-stream : (a b : List ℕ) (c : ReadCall s a) (d : ReadCall s b) (l : List (Event Text))
      → AreOctets a → AreOctets b → Leaves c l → Leaves d l → a ≡ b
  pub no-prefix : (a b : List ℕ) (c : ReadCall s a) (d : ReadCall s (a ++ b)) → AreOctets (a ++ b)
      → c.reply.number ≡ 0 → d.reply.number ≡ 0 → b ≡ []

-- ---- all of it
pub record CellTheorems : Type 0 where
  pub demand-1-read : (s : SettingNumbers) (stream : List ℕ) (m m' : ReaderLent) (r : ReadReply)
      → ReadPost s stream m m' r → Demand1Read s stream m m' r
  -- It alone stops a reader that answers ENDED 0 to all: K1 is accepted, with four events.
  pub k1-accepted : (s : SettingNumbers) (m m' : ReaderLent) (r : ReadReply)
      → numbers_of s ≡ in_octets → T (enough_to_read sizes (reader_room m))
      → Demand1Read s (0x80 ∷ 0x01 ∷ 0x02 ∷ 0x61 ∷ 0x00 ∷ []) m m' r
      → (r.number ≡ 0) × (r.events ≡ 4) × (r.code_points ≡ 100)
  pub demand-1-write : (s : SettingNumbers) (events : List ℕ) (text : Text) (m m' : WriterLent)
      (r : WriteReply) → WritePost s events text m m' r → Demand1Write s events text m m' r
  pub demand-2 : (s : SettingNumbers) → Demand2Cells s
  pub demand-3 : (s : SettingNumbers) → Demand3Cells s
  -- An event of each kind in its nine cells, and cells that are none.
  pub event-cells : CellExamples
