-- What is proved of readings in memory, whatever is lent and whatever lies in it (02, P12; in words
-- in docs/CLAIMS.md). The record `ReadingsCellTheorems` at the end is proved whole:
-- proofs/ReadingsCells.antt has a line for each claim, which points to its proof.
--
-- The claims are of the contracts alone: FromListPost, ToListPost, FromStreamPost and ToStreamPost
-- (crates/readings_from, readings_to and readings). The four functions of the boundary have the
-- same. ReadingsCalls.antt has the abbreviations (Finds, Lays, FindsIn, Streams).
-- m: what is lent; m': what is left in it; r: the reply.
mod Words
use Words.*

-- ---- after a refusal the counts are 0 and all cells are; past the counts all are zero

pub record FromListLeft (m m' : ReadingsLent) (r : ReadingsReply) : Type 0 where
  pub refused : 0 < r.number
      → (r.readings ≡ 0)
      × (m'.stamps ≡ zeros (length m.stamps))
      × (m'.movements ≡ zeros (length m.movements))
  pub past-stamps : drop r.readings m'.stamps ≡ zeros (length m.stamps - r.readings)
  pub past-movements : drop r.readings m'.movements
      ≡ zeros (length m.movements - r.readings)

pub record ToListLeft (m m' : ListLent) (r : ListReply) : Type 0 where
  pub refused : 0 < r.number
      → (r.events ≡ 0) × (r.code_points ≡ 0)
      × (m'.events ≡ zeros (length m.events))
      × (m'.text ≡ zeros (length m.text))
  pub past-events : drop (cells_per_event * r.events) m'.events
      ≡ zeros (length m.events - cells_per_event * r.events)
  pub past-text : drop r.code_points m'.text
      ≡ zeros (length m.text - r.code_points)

-- Past the cells of this list all are zero. (No reply counts them here.)
pub record PastList (x : ReadList) (events text events' text' : List ℕ) : Type 0 where
  pub events-are : drop (cells_per_event * length x.events) events'
      ≡ zeros (length events - cells_per_event * length x.events)
  pub text-is : drop (length x.store) text' ≡ zeros (length text - length x.store)

pub record FromStreamLeft (s : SettingNumbers) (octets : List ℕ) (m m' : FromLent)
    (r : ReadingsReply) : Type 0 where
  pub refused : 0 < r.number
      → (r.readings ≡ 0)
      × (m'.stamps ≡ zeros (length m.stamps))
      × (m'.movements ≡ zeros (length m.movements))
      × (m'.events ≡ zeros (length m.events))
      × (m'.text ≡ zeros (length m.text))
  pub past-stamps : drop r.readings m'.stamps ≡ zeros (length m.stamps - r.readings)
  pub past-movements : drop r.readings m'.movements
      ≡ zeros (length m.movements - r.readings)
  pub past-list : (x : Found) → found_of s octets m ≡ done x
      → PastList x.list m.events m.text m'.events m'.text
  pub work : m'.work ≡ zeros (length m.work)

pub record ToStreamLeft (s : SettingNumbers) (stamps movements : List ℕ) (m m' : ToLent)
    (r : WriteReply) : Type 0 where
  pub refused : 0 < r.number
      → (r.octets ≡ 0)
      × (m'.octets ≡ zeros (length m.octets))
      × (m'.events ≡ zeros (length m.events))
      × (m'.text ≡ zeros (length m.text))
  pub past-octets : drop r.octets m'.octets ≡ zeros (length m.octets - r.octets)
  pub past-list : (x : Written) → written_of s stamps movements m ≡ done x
      → PastList x.list m.events m.text m'.events m'.text
  pub work : m'.work ≡ zeros (length m.work)

-- ---- lists and readings
pub record ListCells : Type 0 where
  -- Readings are left exactly for the list of good readings, and these are.
  pub found : (events : List ℕ) (text : Text) (c : FromListCall events text) (rs : List Reading)
      → Finds c rs ↔ (CanFind c × Hold events text (as_list rs) × Good rs)
  -- A list is left exactly for good readings, and it is theirs.
  pub laid : (stamps movements : List ℕ) (c : ToListCall stamps movements) (l : List (Event Text))
      → Lays c l
      ↔ (CanLay c × Good (readings_in stamps movements) × (l ≡ as_list (readings_in stamps movements)))
  -- Readings to list and back, and list to readings and back, lose nothing.
  pub found_back : (stamps movements : List ℕ) (w : ToListCall stamps movements)
      (c : FromListCall (events_laid w) (text_laid w)) → CanFind c → w.reply.number ≡ 0
      → Finds c (readings_in stamps movements)
  pub laid-back : (events : List ℕ) (text : Text) (c : FromListCall events text)
      (w : ToListCall (stamps_found c) (movements_found c)) (l : List (Event Text)) → CanLay w
      → c.reply.number ≡ 0 → Hold events text l → Lays w l

-- ---- streams and readings
pub record StreamCells (s : SettingNumbers) : Type 0 where
  -- The readings of a stream are those of the list that the reader leaves.
  pub read : (octets : List ℕ) (c : FromStreamCall s octets) (d : ReadCall s octets)
      (rs : List Reading) → CanRead d
      → FindsIn c rs ↔ (CanFindIn c × Leaves d (as_list rs) × Good rs)
  -- Octets are left exactly for good readings whose list the writer takes: its strict form.
  pub written : (stamps movements : List ℕ) (c : ToStreamCall s stamps movements)
      (octets : List ℕ)
      → Streams c octets
      ↔ (CanStream c × Good (readings_in stamps movements)
      × GoodList (asked s) (as_list (readings_in stamps movements))
      × (octets ≡ strict (asked s) (as_list (readings_in stamps movements))))
  -- Readings to stream and back, and stream to readings and back, lose nothing.
  pub read_back : (stamps movements : List ℕ) (w : ToStreamCall s stamps movements)
      (c : FromStreamCall s (octets_in w)) → CanFindIn c → w.reply.number ≡ 0
      → FindsIn c (readings_in stamps movements)
  pub written_back : (octets : List ℕ) (c : FromStreamCall s octets)
      (w : ToStreamCall s (stamps_in c) (movements_in c)) → CanStream w → AreOctets octets
      → c.reply.number ≡ 0 → Streams w octets
  -- The list that is laid for readings is, cell by cell, what the reader leaves for the stream that
  -- the writer makes of it, under the scope's own settings.
  pub as_read : (stamps movements : List ℕ) (l : ToListCall stamps movements)
      (w : WriteCall s (events_laid l) (text_laid l)) (d : ReadCall s (octets_left w))
      → OfScope (numbers_of s) → CanRead d → l.reply.number ≡ 0 → w.reply.number ≡ 0
      → (events_left d ≡ events_laid l) × (text_left d ≡ text_laid l)

-- ---- all of it
pub record ReadingsCellTheorems : Type 0 where
  pub from_list : (events : List ℕ) (text : Text) (m m' : ReadingsLent) (r : ReadingsReply)
      → FromListPost events text m m' r → FromListLeft m m' r
  pub to-list : (stamps movements : List ℕ) (m m' : ListLent) (r : ListReply)
      → ToListPost stamps movements m m' r → ToListLeft m m' r
  pub from-stream : (s : SettingNumbers) (octets : List ℕ) (m m' : FromLent) (r : ReadingsReply)
      → FromStreamPost s octets m m' r → FromStreamLeft s octets m m' r
  pub to-stream : (s : SettingNumbers) (stamps movements : List ℕ) (m m' : ToLent)
      (r : WriteReply) → ToStreamPost s stamps movements m m' r
      → ToStreamLeft s stamps movements m m' r
  pub lists : ListCells
  pub streams : (s : SettingNumbers) → StreamCells s
