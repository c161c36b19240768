-- One row more keeps the rows valid, where it refers to rows that are there and none is the same.
use Prim.Native.Nat.{ℕ, zero, suc, ◌+◌, ◌-◌, ◌/◌, ◌≤◌, ◌<◌}
use native.Mathlib.Omega.{arith}
use mathlib.Core.Path.{◌≡◌, refl, sym, ap, subst, ◌∙◌}
use mathlib.Core.Bool.{Bool, true, false, cond, ◌||◌, true≢false}
use mathlib.Core.List.{List, [], ◌∷◌, ◌++◌, map}
use mathlib.Core.Option.{Option, none, some}
use lib.ListN.{length, get_or, length-append, get_or-append}
use lib.Seq.{get_or-append_seam}
use lib.Dec.{eqb}
use borrow.Author.Tests.{eqb-true, eqb-false, eq-eqb}
use Rattle.spec_fields.proofs.Tests.{split}
use Rattle.text.specs.Text.{Text}
use Rattle.spec_exi.specs.Event.{QName}
use Rattle.spec_exi.specs.Sizes.{max_values}
use Rattle.spec_exi.specs.Tables.{Placed, Entry, local, name_allowed, replaced, is_zero}
use Rattle.mem_entries.specs.Entries.{entry_at, text_at}
use Rattle.mem_entries.proofs.Entries.{entry_old, entry_new}
use Rattle.mem_names.specs.Uris.{no_uri, uri_at, uri_text}
use Rattle.mem_rows.specs.Rows.{Learnt, Rows, placed_at, name_at}
use Rattle.mem_rows.specs.Rows.{is_among, with_uri, with_name, with_value, with_learned, with_grammar}
use Rattle.mem_rows.specs.Rows.{with_attributes}
use Rattle.mem_rows.specs.Valid.{no_learnt, learnt_at, KeysBelow, LearntFits, Refers, Distinct}
use Rattle.mem_rows.specs.Valid.{gone_in, Windowed, Judged, Valid}
use Rattle.mem_rows.proofs.Entries.{last_or, keys-more, keys-up}
use Rattle.mem_rows.proofs.Joins.{uri-old, uri-new, uri-names, name-old, name_new_lem, name-text}
use Rattle.mem_rows.proofs.Kept.{Kept, name-kept}

-- ---- what is different stays different

-- f tells the members of a list apart; g does of one more, that f knows of no other.
pub apart_more : {A B : Type 0} (l : List A) (x : A) (f g : ℕ → B)
    → ((i : ℕ) → i < length l → g i ≡ f i)
    → ((i j : ℕ) → i < length l → j < length l → f i ≡ f j → i ≡ j)
    → ((i : ℕ) → i < length l → f i ≡ g (length l) → ⊥)
    → (i j : ℕ) → i < length (l ++ (x ∷ [])) → j < length (l ++ (x ∷ [])) → g i ≡ g j → i ≡ j
apart_more l x f g old once fresh i j a b =
    last_or {P = λ i. (j : ℕ) → j < length (l ++ (x ∷ [])) → g i ≡ g j → i ≡ j} l x
    (λ i h. last_or {P = λ j. g i ≡ g j → i ≡ j} l x
    (λ j k e. once i j h k (sym (old i h) ∙ e ∙ old j k))
    (λ e. absurd (fresh i h (sym (old i h) ∙ e))))
    (last_or {P = λ j. g (length l) ≡ g j → length l ≡ j} l x
    (λ j k e. absurd (fresh j k (sym (old j k) ∙ sym e)))
    (λ e. refl))
    i a j b

length-snoc : {A : Type 0} (l : List A) (x : A) → length (l ++ (x ∷ [])) ≡ suc (length l)
length-snoc l x = omega (arith, length-append l (x ∷ []))

fits-up : {most more : ℕ} {l : Learnt} → most ≤ more → LearntFits most l → LearntFits more l
fits-up h f =
    record {
      site = λ n. omega (arith, f.site n);
      alone = f.alone;
      from = f.from;
      up_to = f.up_to;
      name = omega (arith, f.name);
      tag = f.tag;
      plain = f.plain;
    }

-- ---- what was judged

allowed-as : (p q : QName Text) → p ≡ q → name_allowed (local false q.uri) q.local ≡ true
    → name_allowed (local false p.uri) p.local ≡ true
allowed-as p q e h =
    ap (λ (x : QName Text). name_allowed (local false x.uri) x.local) e ∙ h

judged-kept : {w v : Rows} → Kept w v → length v.names ≡ length w.names → Judged w → Judged v
judged-kept {w} {v} k e j =
    record {
      names = λ n h.
          let l : n < length w.names = omega (arith, e, h) in
          allowed-as (name_at v n) (name_at w n) (name-kept k n l) (j.names n l);
    }

-- ---- a URI

module _ {w : Rows} (v : Valid w) (x : Placed) where
  pub uri-keeps : Kept w (with_uri w x)
  unfolding with_uri
  uri-keeps = record { fewer = omega arith; names = λ n h. uri-names w x v.refers n h }

  pub uri-grows : ((u : ℕ) → u < length w.uris → uri_text w.uris u ≡ x.text → ⊥) → Valid (with_uri w x)
  unfolding with_uri
  uri-grows fresh =
      let r = v.refers in
      let d = v.distinct in
      record {
        refers = record {
          names = keys-up (omega (arith, length-append w.uris (x ∷ []))) r.names;
          values = r.values;
          learned = r.learned;
          grammars = r.grammars;
          attributes = r.attributes;
        };
        window = v.window;
        distinct = record {
          uris = apart_more w.uris x (uri_text w.uris) (uri_text (w.uris ++ (x ∷ [])))
              (λ u h. ap (λ (p : Placed). p.text) (uri-old w x u h)) d.uris
              (λ u h e. fresh u h (e ∙ ap (λ (p : Placed). p.text) (uri-new w x)));
          names = λ i j h k e. d.names i j h k
              (sym (name-text (with_uri w x) w i i (uri-names w x r i h)) ∙ e
              ∙ name-text (with_uri w x) w j j (uri-names w x r j k));
          values = d.values;
          learned = d.learned;
          grammars = d.grammars;
        };
        judged = judged-kept uri-keeps refl v.judged;
      }

-- ---- a local name

pub name-newest : (w : Rows) (u : ℕ) (x : Placed)
    → name_at (with_name w u x) (length w.names) ≡ record { uri = uri_text w.uris u; local = x.text }
unfolding name_at
name-newest w u x =
    ap (λ (q : QName Placed). record { uri = q.uri.text; local = q.local.text }) (name_new_lem w u x)

module _ {w : Rows} (v : Valid w) (u : ℕ) (x : Placed) where
  pub name-keeps : Kept w (with_name w u x)
  unfolding with_name
  name-keeps =
      record {
        fewer = omega (arith, length-append w.names (record { key = u; string = x } ∷ []));
        names = λ n h. name-old w u x n h;
      }

  pub name-grows : u < length w.uris
      → ((n : ℕ) → n < length w.names → name_at w n ≡ record { uri = uri_text w.uris u; local = x.text } → ⊥)
      → name_allowed (local false (uri_text w.uris u)) x.text ≡ true
      → Valid (with_name w u x)
  unfolding with_name
  name-grows h fresh allowed =
      let r = v.refers in
      let d = v.distinct in
      let e : Entry ℕ = record { key = u; string = x } in
      let more : length w.names ≤ length (w.names ++ (e ∷ [])) = omega (arith, length-append w.names (e ∷ [])) in
      let new : name_at (with_name w u x) (length w.names) ≡ record { uri = uri_text w.uris u; local = x.text } =
      name-newest w u x in
      record {
        refers = record {
          names = keys-more w.names e r.names h;
          values = keys-up more r.values;
          learned = λ i l. fits-up more (r.learned i l);
          grammars = λ i l. omega (arith, r.grammars i l, more);
          attributes = λ i l. omega (arith, r.attributes i l, more);
        };
        window = v.window;
        distinct = record {
          uris = d.uris;
          names = apart_more w.names e (name_at w) (name_at (with_name w u x))
              (λ n l. name-text (with_name w u x) w n n (name-old w u x n l)) d.names
              (λ n l z. fresh n l (z ∙ new));
          values = d.values;
          learned = d.learned;
          grammars = d.grammars;
        };
        judged = record {
          names = last_or
              {P = λ n. name_allowed (local false (name_at (with_name w u x) n).uri)
              (name_at (with_name w u x) n).local ≡ true} w.names e
              (λ n l.
              allowed-as (name_at (with_name w u x) n) (name_at w n) (name-kept name-keeps n l)
              (v.judged.names n l))
              (allowed-as (name_at (with_name w u x) (length w.names))
              (record { uri = uri_text w.uris u; local = x.text }) new allowed);
        };
      }

-- ---- a value

-- Texts from a row on that differ still differ with one more that none of them has.
texts-apart : (low : ℕ) (es : List (Entry ℕ)) (e : Entry ℕ)
    → ((i j : ℕ) → low ≤ i → i < length es → low ≤ j → j < length es → text_at es i ≡ text_at es j → i ≡ j)
    → ((i : ℕ) → low ≤ i → i < length es → text_at es i ≡ e.string.text → ⊥)
    → (i j : ℕ) → low ≤ i → i < length (es ++ (e ∷ [])) → low ≤ j → j < length (es ++ (e ∷ []))
    → text_at (es ++ (e ∷ [])) i ≡ text_at (es ++ (e ∷ [])) j → i ≡ j
texts-apart low es e once fresh i j a h b k =
    let old : (i : ℕ) → i < length es → text_at (es ++ (e ∷ [])) i ≡ text_at es i =
    λ i l. ap (λ (y : Entry ℕ). y.string.text) (entry_old es e i l) in
    let new : text_at (es ++ (e ∷ [])) (length es) ≡ e.string.text =
    ap (λ (y : Entry ℕ). y.string.text) (entry_new es e) in
    last_or
    {P = λ i. low ≤ i → (j : ℕ) → low ≤ j → j < length (es ++ (e ∷ []))
    → text_at (es ++ (e ∷ [])) i ≡ text_at (es ++ (e ∷ [])) j → i ≡ j} es e
    (λ i l a j b k. last_or
    {P = λ j. low ≤ j → text_at (es ++ (e ∷ [])) i ≡ text_at (es ++ (e ∷ [])) j → i ≡ j} es e
    (λ j m b z. once i j a l b m (sym (old i l) ∙ z ∙ old j m))
    (λ b z. absurd (fresh i a l (sym (old i l) ∙ z ∙ new)))
    j k b)
    (λ a j b k. last_or
    {P = λ j. low ≤ j → text_at (es ++ (e ∷ [])) (length es) ≡ text_at (es ++ (e ∷ [])) j → length es ≡ j} es e
    (λ j m b z. absurd (fresh j b m (sym (old j m) ∙ sym z ∙ new)))
    (λ b z. refl)
    j k b)
    i h a j b k

replaced-more : (cap : Option ℕ) (n : ℕ) → replaced cap n ≤ replaced cap (suc n)
unfolding replaced
replaced-more none n = omega arith
replaced-more (some c) n = omega arith

module _ {w : Rows} (v : Valid w) (n : ℕ) (x : Placed) where
  pub value_keeps : Kept w (with_value w n x)
  unfolding with_value placed_at
  value_keeps = record { fewer = omega arith; names = λ m h. refl }

  -- No value that is present has its text, the capacity is not zero, and the size has room.
  pub value_grows : n < length w.names
      → ((i : ℕ) → gone_in w ≤ i → i < length w.values → text_at w.values i ≡ x.text → ⊥)
      → is_zero w.capacity ≡ false
      → suc (length w.values) - replaced w.capacity (suc (length w.values)) ≤ max_values
      → Valid (with_value w n x)
  unfolding with_value name_at placed_at
  value_grows h fresh nonzero few =
      let r = v.refers in
      let d = v.distinct in
      let e : Entry ℕ = record { key = n; string = x } in
      let more : length (w.values ++ (e ∷ [])) ≡ suc (length w.values) = length-snoc w.values e in
      let later : gone_in w ≤ replaced w.capacity (length (w.values ++ (e ∷ []))) =
      rw more (replaced-more w.capacity (length w.values)) in
      record {
        refers = record {
          names = r.names;
          values = keys-more w.values e r.values h;
          learned = r.learned;
          grammars = r.grammars;
          attributes = r.attributes;
        };
        window = record {
          closed = λ z. absurd (true≢false (sym z ∙ nonzero));
          few = rw more few;
        };
        distinct = record {
          uris = d.uris;
          names = d.names;
          values = λ i j a k b l z.
              texts-apart (gone_in w) w.values e d.values fresh i j (omega (arith, later)) k
              (omega (arith, later)) l z;
          learned = d.learned;
          grammars = d.grammars;
        };
        judged = judged-kept value_keeps refl v.judged;
      }

-- ---- a learned production

module _ {w : Rows} (v : Valid w) (l : Learnt) where
  pub learned-keeps : Kept w (with_learned w l)
  unfolding with_learned placed_at
  learned-keeps = record { fewer = omega arith; names = λ m h. refl }

  pub learned-grows : LearntFits (length w.names) l
      → ((i : ℕ) → i < length w.learned → learnt_at w.learned i ≡ l → ⊥) → Valid (with_learned w l)
  unfolding with_learned name_at placed_at
  learned-grows f fresh =
      let r = v.refers in
      let d = v.distinct in
      let old : (i : ℕ) → i < length w.learned → learnt_at (w.learned ++ (l ∷ [])) i ≡ learnt_at w.learned i =
      λ i h. get_or-append w.learned (l ∷ []) no_learnt i h in
      let new : learnt_at (w.learned ++ (l ∷ [])) (length w.learned) ≡ l =
      get_or-append_seam w.learned l [] no_learnt in
      record {
        refers = record {
          names = r.names;
          values = r.values;
          learned =
              last_or {P = λ i. LearntFits (length w.names) (learnt_at (w.learned ++ (l ∷ [])) i)} w.learned l
              (λ i h. subst (LearntFits (length w.names)) (sym (old i h)) (r.learned i h))
              (subst (LearntFits (length w.names)) (sym new) f);
          grammars = r.grammars;
          attributes = r.attributes;
        };
        window = v.window;
        distinct = record {
          uris = d.uris;
          names = d.names;
          values = d.values;
          learned =
              apart_more w.learned l (learnt_at w.learned) (learnt_at (w.learned ++ (l ∷ []))) old d.learned
              (λ i h z. fresh i h (z ∙ new));
          grammars = d.grammars;
        };
        judged = judged-kept learned-keeps refl v.judged;
      }

-- ---- an element grammar

among-at : (gs : List ℕ) (n i : ℕ) → is_among n gs ≡ false → i < length gs → get_or gs i 0 ≡ n → ⊥
unfolding is_among
among-at [] n i f h e = omega (arith, h)
among-at (g ∷ gs) n zero f h e = true≢false (sym (ap (λ b. b || is_among n gs) (eq-eqb g n e)) ∙ f)
among-at (g ∷ gs) n (suc i) f h e =
    among-at gs n i (later (eqb g n) (is_among n gs) f) (omega arith) e
  where
    later : (a b : Bool) → (a || b) ≡ false → b ≡ false
    later true b z = absurd (true≢false z)
    later false b z = z

module _ {w : Rows} (v : Valid w) (n : ℕ) where
  pub grammar-keeps : Kept w (with_grammar w n)
  unfolding with_grammar placed_at
  grammar-keeps = record { fewer = omega arith; names = λ m h. refl }

  pub grammar-grows : n < length w.names → is_among n w.grammars ≡ false → Valid (with_grammar w n)
  unfolding with_grammar name_at placed_at
  grammar-grows h fresh =
      let r = v.refers in
      let d = v.distinct in
      let old : (i : ℕ) → i < length w.grammars → get_or (w.grammars ++ (n ∷ [])) i 0 ≡ get_or w.grammars i 0 =
      λ i l. get_or-append w.grammars (n ∷ []) 0 i l in
      let new : get_or (w.grammars ++ (n ∷ [])) (length w.grammars) 0 ≡ n = get_or-append_seam w.grammars n [] 0 in
      record {
        refers = record {
          names = r.names;
          values = r.values;
          learned = r.learned;
          grammars = last_or {P = λ i. get_or (w.grammars ++ (n ∷ [])) i 0 < length w.names} w.grammars n
              (λ i l. omega (arith, old i l, r.grammars i l))
              (omega (arith, new, h));
          attributes = r.attributes;
        };
        window = v.window;
        distinct = record {
          uris = d.uris;
          names = d.names;
          values = d.values;
          learned = d.learned;
          grammars =
              apart_more w.grammars n (λ i. get_or w.grammars i 0) (λ i. get_or (w.grammars ++ (n ∷ [])) i 0) old
              d.grammars
              (λ i l z. among-at w.grammars n i fresh l (z ∙ new));
        };
        judged = judged-kept grammar-keeps refl v.judged;
      }

-- ---- the attributes of a start tag

module _ {w : Rows} (v : Valid w) (ns : List ℕ) where
  attributes-keeps : Kept w (with_attributes ns w)
  unfolding with_attributes placed_at
  attributes-keeps = record { fewer = omega arith; names = λ m h. refl }

  pub attributes-turn : ((i : ℕ) → i < length ns → get_or ns i 0 < length w.names)
      → Valid (with_attributes ns w)
  unfolding with_attributes name_at placed_at
  attributes-turn h =
      let r = v.refers in
      let d = v.distinct in
      record {
        refers = record {
          names = r.names;
          values = r.values;
          learned = r.learned;
          grammars = r.grammars;
          attributes = h;
        };
        window = v.window;
        distinct = record {
          uris = d.uris;
          names = d.names;
          values = d.values;
          learned = d.learned;
          grammars = d.grammars;
        };
        judged = judged-kept attributes-keeps refl v.judged;
      }
