-- Events without a name, judged: what is asked of callees and left, path by path.
use Prim.Native.Nat.{ℕ, ◌≤◌, ◌<◌}
use native.Mathlib.Omega.{arith}
use native.Mathlib.Nat.{le_refl}
use mathlib.Core.Path.{◌≡◌, refl, sym, ap, subst, ◌∙◌}
use mathlib.Core.Bool.{Bool, true, false, true≢false}
use mathlib.Core.List.{List, [], ◌∷◌, ◌++◌}
use lib.ListN.{length}
use Rattle.spec_fields.specs.Bits.{Bits}
use Rattle.spec_fields.specs.Field.{Alignment}
use Rattle.text.specs.Text.{Text, inside, part}
use Rattle.spec_exi.specs.Sizes.{sizes, max_store}
use Rattle.spec_exi.specs.Event.{kind_of, map_event, strings_of}
use Rattle.spec_exi.specs.Tables.{Role, value, target, comment_text, instruction_text, string_bits}
use Rattle.spec_exi.specs.Grammar.{State}
use Rattle.spec_exi.specs.Context.{Item, item, character_role}
use Rattle.spec_exi.specs.Lists.{every}
use Rattle.spec_exi.specs.Writer.{first_failed, content_tests}
use Rattle.event.specs.declared.Part.{Part}
use Rattle.event.specs.declared.Event as declared
use Rattle.event.specs.declared.Event.TheVariants.{Characters, Comment, Instruction}
use Rattle.event.specs.Cells.{as_span, meaning}
use Rattle.mem_rows.specs.Rows.{Rows, name_at, carries}
use Rattle.mem_state.specs.declared.Core.{Core}
use Rattle.mem_state.specs.Joining.{no_strings}
use Rattle.mem_state.specs.Strung.{value_added, StringsJoin}
use Rattle.mem_state.proofs.Strung.{none-join}
use Rattle.write_partition.specs.Writable.{tables_in}
use Rattle.write_partition.specs.Judged.{StringAnswer, fault_number, StringMeans}
use Rattle.write_values.specs.Values.{ValueAnswer, value_bits, ValuePost}
use Rattle.write_values.specs.Texts.{TextPost}
use Rattle.write_qname.specs.Premise.{list_stores, Prepared, Inside, part_at}
use Rattle.write_qname.proofs.Items.{ItemsMean, no_items, one-item, items-first, items-then, items-passed}
use Rattle.write_qname.proofs.Lain.{placed_in}
use Rattle.write_qname.proofs.Pair.{few-rows}
use Rattle.write_content.specs.Writing.{valued_bits, contentBits, Puttable}
use Rattle.write_content.specs.Contents.{plain_as, stopped_as, with_value, items_as}
use Rattle.write_content.specs.Contents.{ContentPre, ContentPost}
use Rattle.write_content.proofs.Values.{value-means, value-at, value-joins, value-puttable}
use Rattle.write_content.proofs.Contents.{first-inside, post-refused, unnamed-means}

-- ---- characters

characters-inside : (text : List ℕ) (x : Part)
    → every (inside text) (strings_of (meaning (Characters x))) ≡ true → Inside text x
unfolding meaning strings_of
characters-inside text x i = first-inside text x [] i

characters-items : (text : List ℕ) (x : Part) (st : State) {r : Role} → character_role st ≡ r
    → (written : Bool)
    → items_as written st (map_event (part text) (meaning (Characters x)))
    ≡ item r (part_at text x) ∷ []
unfolding meaning map_event items_as
characters-items text x st e written = ap (λ r. item r (part_at text x) ∷ []) e

module _ {opening text work : List ℕ} {c : Core} (pre : ContentPre work c) (x : Part) {v : ValueAnswer}
    (post : ValuePost text (part_at text x) c.top c.values c.longest c.capacity c.stored
    work v) where
  module _ {w : Rows} (p : Prepared opening text work c w) (row : c.top < length w.names) where
    of-top : StringMeans (value (name_at w c.top)) w
        (value_added v.joins c.top w (placed_in text x)) c.stored (part_at text x)
        v.number v.stored
        (value_bits work v.partition v.id c.top c.values c.capacity (part_at text x))
    of-top =
        value-means p (none-join (list_stores opening text) p.valid) refl x post
        p.writable (few-rows pre.bounded p.counts p.valid) row

    top-joins : v.number ≡ 0 → Inside text x
        → StringsJoin (list_stores opening text) (with_value no_strings c.top x v).strings w
        (value_added v.joins c.top w (placed_in text x))
    top-joins =
        value-joins p (none-join (list_stores opening text) p.valid) refl x post
        p.writable (few-rows pre.bounded p.counts p.valid) row

module _ {opening text work : List ℕ} {c : Core} (pre : ContentPre work c) (x : Part) {y : Text}
    (look : y ≡ part text (record { place = x.place; size = x.size })) {v : ValueAnswer}
    (given : ValuePost text y c.top c.values c.longest c.capacity c.stored work v) where
  pub characters-refused : 0 < v.number
      → ContentPost opening text (Characters x) c work (stopped_as v.number c.stored)
  unfolding kind_of meaning
  characters-refused h =
      post-refused pre.bounded h
      (λ w st p _ t written _.
      let (role, row) = t refl in
      (one-item (of-top pre x (value-at x look given) p row)).fault
      ∙ ap (λ is. fault_number (first_failed (content_tests sizes (tables_in w c.stored) is)))
      (sym (characters-items text x st role written)))

  pub characters-judged : v.number ≡ 0
      → ContentPost opening text (Characters x) c work (with_value no_strings c.top x v)
  unfolding kind_of meaning map_event Puttable contentBits valued_bits carries
  characters-judged z =
      let post = value-at x look given in
      let b = post.bounds z in
      record {
        refused = λ h. absurd (omega arith);
        bounds = λ _. record {
          uris = λ j. absurd (true≢false (sym j));
          names = λ j. absurd (true≢false (sym j));
          values = λ j. (b.new j).1;
          uri = omega arith;
          name = omega arith;
          owner = pre.bounded.top;
        };
        store = b.store;
        grows = omega (arith, b.stored_is);
        puttable = λ _. value-puttable b _ refl;
        meant = λ w st p i t.
            let (role, row) = t refl in
            let m = of-top pre x post p row in
            unnamed-means (top-joins pre x post p row z (characters-inside text x i))
            (m.writable z) (items-passed (one-item m) z) (characters-items text x st role)
            (λ carried a. refl) refl
            (record { row = refl; uri = refl });
      }

-- ---- strings that join no table

module _ {opening text work : List ℕ} {c : Core} (pre : ContentPre work c) (e : declared.Event)
    {is : List Item}
    (same : (written : Bool) (st : State)
    → items_as written st (map_event (part text) (meaning e)) ≡ is) where
  plain-refused : {n : ℕ} → 0 < n
      → ((w : Rows) → Prepared opening text work c w
      → n ≡ fault_number (first_failed (content_tests sizes (tables_in w c.stored) is)))
      → ContentPost opening text e c work (stopped_as n c.stored)
  plain-refused h f =
      post-refused pre.bounded h
      (λ w st p _ _ written _.
      f w p
      ∙ ap (λ js. fault_number (first_failed (content_tests sizes (tables_in w c.stored) js)))
      (sym (same written st)))

  plain-judged : {stored : ℕ} → stored ≤ max_store → c.stored ≤ stored
      → Puttable e c (plain_as stored no_strings) text → {bits : Alignment → Bits}
      → ((carried : Bool) (a : Alignment)
      → contentBits text work e carried c (plain_as stored no_strings) a ≡ bits a)
      → carries (kind_of (map_event (part text) (meaning e))) ≡ false
      → ((w : Rows) → Prepared opening text work c w
      → ItemsMean (tables_in w c.stored) is 0 (tables_in w stored) bits)
      → ContentPost opening text e c work (plain_as stored no_strings)
  plain-judged low grows put bits k m =
      record {
        refused = λ h. absurd (omega arith);
        bounds = λ _. record {
          uris = λ j. absurd (true≢false (sym j));
          names = λ j. absurd (true≢false (sym j));
          values = λ j. absurd (true≢false (sym j));
          uri = omega arith;
          name = omega arith;
          owner = omega arith;
        };
        store = low;
        grows = grows;
        puttable = λ _. put;
        meant = λ w st p _ _.
            unnamed-means (none-join (list_stores opening text) p.valid) p.writable (m w p)
            (λ written. same written st) bits k (record { row = refl; uri = refl });
      }

-- An event without strings.
pub bare-judged : {opening text work : List ℕ} {c : Core} → ContentPre work c → (e : declared.Event)
    → ((written : Bool) (st : State) → items_as written st (map_event (part text) (meaning e)) ≡ [])
    → ((carried : Bool) (a : Alignment)
    → contentBits text work e carried c (plain_as c.stored no_strings) a ≡ [])
    → carries (kind_of (map_event (part text) (meaning e))) ≡ false
    → Puttable e c (plain_as c.stored no_strings) text
    → ContentPost opening text e c work (plain_as c.stored no_strings)
bare-judged {c = c} pre e same bits k put =
    plain-judged pre e same pre.bounded.stored (le_refl c.stored) put bits k
    (λ w p. no_items (tables_in w c.stored))

-- ---- a comment, and an instruction

text_at : (text : Text) {y : Text} (x : Part)
    → y ≡ part text (record { place = x.place; size = x.size })
    → {role : Role} {stored : ℕ} {r : StringAnswer} → TextPost role y stored r
    → TextPost role (part_at text x) stored r
unfolding as_span
text_at text x e {role} {stored} {r} p = subst (λ t. TextPost role t stored r) e p

text-grows : {role : Role} {x : Text} {stored : ℕ} {r : StringAnswer} → TextPost role x stored r
    → r.number ≡ 0 → stored ≤ r.stored
text-grows p z = omega (arith, ap (λ (r : StringAnswer). r.stored) (p.judged z))

module _ {opening text work : List ℕ} {c : Core} (pre : ContentPre work c) where
  -- A text, where the store has so many code points.
  text-items : {role : Role} {x : Text} {stored : ℕ} {r : StringAnswer} → TextPost role x stored r
      → {w : Rows} → Prepared opening text work c w
      → ItemsMean (tables_in w stored) (item role x ∷ []) r.number (tables_in w r.stored)
      (λ a. string_bits 0 x)
  text-items post {w} p =
      one-item (post.meant w p.valid p.writable (few-rows pre.bounded p.counts p.valid))

  module _ (x : Part) {y : Text} (look : y ≡ part text (record { place = x.place; size = x.size }))
      {r : StringAnswer} (given : TextPost comment_text y c.stored r) where
    pub comment-refused : 0 < r.number
        → ContentPost opening text (Comment x) c work (stopped_as r.number c.stored)
    unfolding meaning map_event items_as
    comment-refused h =
        plain-refused pre (Comment x) (λ written st. refl) h
        (λ w p. (text-items (text_at text x look given) p).fault)

    pub comment-judged : r.number ≡ 0
        → ContentPost opening text (Comment x) c work (plain_as r.stored no_strings)
    unfolding meaning map_event items_as contentBits kind_of carries Puttable
    comment-judged z =
        let post = text_at text x look given in
        plain-judged pre (Comment x) (λ written st. refl) post.store (text-grows post z)
        (post.written z) (λ carried a. refl) refl
        (λ w p. items-passed (text-items post p) z)

  module _ (t x : Part) {y : Text} (look : y ≡ part text (record { place = t.place; size = t.size }))
      {r : StringAnswer} (given : TextPost target y c.stored r) where
    pub target-refused : 0 < r.number
        → ContentPost opening text (Instruction t x) c work (stopped_as r.number c.stored)
    unfolding meaning map_event items_as
    target-refused h =
        plain-refused pre (Instruction t x) (λ written st. refl) h
        (λ w p. (items-first (text-items (text_at text t look given) p) h
        (item instruction_text (part_at text x) ∷ []) {u = tables_in w c.stored} {bits₁ = λ a. []}).fault)

    module _ (z : r.number ≡ 0) {v : Text}
        (look₂ : v ≡ part text (record { place = x.place; size = x.size })) {q : StringAnswer}
        (given₂ : TextPost instruction_text v r.stored q) where
      both-items : {w : Rows} → Prepared opening text work c w
          → ItemsMean (tables_in w c.stored)
          (item target (part_at text t) ∷ item instruction_text (part_at text x) ∷ []) q.number
          (tables_in w q.stored)
          (λ a. string_bits 0 (part_at text t) ++ string_bits 0 (part_at text x))
      both-items p =
          items-then (text-items (text_at text t look given) p) z
          (text-items (text_at text x look₂ given₂) p)

      pub instruction-refused : 0 < q.number
          → ContentPost opening text (Instruction t x) c work (stopped_as q.number c.stored)
      unfolding meaning map_event items_as
      instruction-refused h =
          plain-refused pre (Instruction t x) (λ written st. refl) h (λ w p. (both-items p).fault)

      pub instruction-judged : q.number ≡ 0
          → ContentPost opening text (Instruction t x) c work (plain_as q.stored no_strings)
      unfolding meaning map_event items_as contentBits kind_of carries Puttable
      instruction-judged z₂ =
          let first = text_at text t look given in
          let second = text_at text x look₂ given₂ in
          plain-judged pre (Instruction t x) (λ written st. refl) second.store
          (omega (arith, text-grows first z, text-grows second z₂))
          (first.written z, second.written z₂) (λ carried a. refl) refl
          (λ w p. items-passed (both-items p) z₂)
