-- `form_of` answers the form of the strict form.
use Prim.Native.Nat.{ℕ, suc, ◌+◌, ◌-◌, ◌≤◌, ◌<◌, ◌%◌}
use native.Mathlib.Omega.{arith}
use mathlib.Core.Path.{◌≡◌, sym, ap, ◌∙◌}
use mathlib.Core.List.{List}
use mathlib.Core.Option.{Option}
use lib.ListN.{length}
use lib.Dec.{ltb}
use borrow.Author.Tests.{ltb-true, ltb-false, lt-ltb, le-ltb, eq-eqb, ne_eqb}
use Rattle.mem_chain.specs.Chain.{last_that, since}
use Rattle.mem_chain.proofs.Last.{split}
use Rattle.mem_values.specs.declared.Value.{Value}
use Rattle.mem_values.specs.declared.Form.TheVariants.{Local, Global, Absent}
use Rattle.mem_values.specs.Values.{value_in, found_in}
use Rattle.mem_values.specs.Hold.{FoundText, IsValue, ValueAt}
use Rattle.mem_values.specs.Forms.{pick_form, form_at, number_in, number_of, nth_of, form_in}
use Rattle.mem_values.specs.Forms.{ValuesStand, Formed}
use Rattle.mem_values.proofs.Order.{insertion-new, insertion-old, ordered}
use Rattle.mem_values.proofs.Answers.{FoundAt, found_at}
use Rattle.spec_exi.specs.Tables.{hit, global_id}
use Rattle.mem_index.specs.Index.{number_at, numbers}
use Rattle.mem_entries.specs.Texts.{hash_of}
use Rattle.mem_entries.specs.Entries.{Entries, key_at, has_text_at}
use Rattle.mem_layout.specs.Layout.{value_ring}
use Rattle.mem_values.specs.Window.{insertion, Ordered, earlier, value_form}

-- ---- global numbers
module _ (n low newer g : ℕ) where
  pub number-old : g < n - newer → newer + (g - low) ≡ number_of n low newer g
  unfolding number_of
  number-old h = rw (lt-ltb g (n - newer) h)

  pub number-new : n - newer ≤ g → g - (n - newer) ≡ number_of n low newer g
  unfolding number_of
  number-new h = rw (le-ltb g (n - newer) h)

  pub number-less : low ≤ n → newer ≤ n - low → g < n → number_of n low newer g < n
  number-less l m h =
      split (ltb g (n - newer))
      (λ e. omega (arith, number-old (ltb-true g (n - newer) e), ltb-true g (n - newer) e))
      (λ e. omega (arith, number-new (ltb-false g (n - newer) e), ltb-false g (n - newer) e))

  pub number_is : {f : ℕ → ℕ} → Ordered n low newer f → low ≤ g → g < n
      → number_of n low newer g ≡ f g
  number_is {f} o l h =
      let a : low ≤ n = o.have in
      let b : newer ≤ n - low = o.few in
      split (ltb g (n - newer))
      (λ e.
      let k : g < n - newer = ltb-true g (n - newer) e in
      let m : newer + (g - low) < n - low = omega arith in
      let z : insertion n low newer (newer + (g - low)) ≡ g =
      insertion-old n low newer (newer + (g - low)) (omega arith) ∙ (omega arith) in
      sym (number-old k) ∙ sym (o.once (newer + (g - low)) m) ∙ ap f z)
      (λ e.
      let k : n - newer ≤ g = ltb-false g (n - newer) e in
      let m : g - (n - newer) < n - low = omega arith in
      let z : insertion n low newer (g - (n - newer)) ≡ g =
      insertion-new n low newer (g - (n - newer)) (omega arith) ∙ (omega arith) in
      sym (number-new k) ∙ sym (o.once (g - (n - newer)) m) ∙ ap f z)

module _ (n low newer i : ℕ) where
  pub nth-out : n - low ≤ i → 0 ≡ nth_of n low newer i
  unfolding nth_of
  nth-out h = rw (le-ltb i (n - low) h)

  pub nth-new : i < n - low → i < newer → suc (n - newer + i) ≡ nth_of n low newer i
  unfolding nth_of
  nth-new h k = rw (lt-ltb i (n - low) h, insertion-new n low newer i k) (omega arith)

  pub nth-old : i < n - low → newer ≤ i → suc (low + (i - newer)) ≡ nth_of n low newer i
  unfolding nth_of
  nth-old h k = rw (lt-ltb i (n - low) h, insertion-old n low newer i k) (omega arith)

-- ---- forms

module _ {work store x : List ℕ} {hash n low : ℕ} (newer owner : ℕ) where
  pub formed-absent : {r : ℕ} → r ≡ 0 → FoundText work store x hash n low r
      → Formed work store x hash n low newer owner Absent
  unfolding form_in number_in value_form form_at
  formed-absent z f =
      record {
        is = ap (λ k. form_at work n low newer owner k) (sym z ∙ f.is);
        small =
            omega arith;
        means =
            λ stored es cap s b. ap (λ r. value_form cap es owner r)
            (sym z ∙ f.newest stored es s.holds b s.near);
      }

  module _ {r g : ℕ} {v : Value} (is : r ≡ suc g) (f : FoundText work store x hash n low r)
      (a : ValueAt work g v) where
    -- What is found, where memory is a table.
    record Here (es : Entries) (cap : Option ℕ) : Type 0 where
      value : IsValue es g v
      number : (i : ℕ) → i ≡ number_of n low newer g → i ≡ global_id cap g
      form : value_form cap es owner (suc g)
          ≡ value_form cap es owner (since low (last_that (has_text_at es x) n))

    here : {stored : ℕ} {es : Entries} {cap : Option ℕ}
        → ValuesStand work store stored n low newer es cap → hash ≡ hash_of x → Here es cap
    here {stored} {es} {cap} s b =
        let c : length es ≡ n = s.holds.count in
        let e : suc g ≡ since low (last_that (has_text_at es x) n) =
        sym is ∙ f.newest stored es s.holds b s.near in
        let p : FoundAt es low x g =
        found_at es low x g (e ∙ ap (λ m. since low (last_that (has_text_at es x) m)) (sym c)) in
        let l : g < n = omega (arith, p.inside) in
        let o : Ordered n low newer (global_id cap) =
        rw (s.gone, s.new) (ordered s.capacity) in
        record {
          value = a.means store stored n es s.holds l (omega (arith, s.near, p.present));
          number = λ i z. z ∙ number_is n low newer g o p.present l;
          form = ap (λ r. value_form cap es owner r) e;
        }

    mine-at : v.owner ≡ owner → Local v.number ≡ form_at work n low newer owner (suc g)
    unfolding form_at pick_form
    mine-at z =
        let q : (value_in work (g % value_ring)).owner ≡ owner =
        ap (λ (w : Value). w.owner) (sym a.cells) ∙ z in
        ap (λ (w : Value). Local w.number) a.cells
        ∙ rw (eq-eqb (value_in work (g % value_ring)).owner owner q)

    other_at : (v.owner ≡ owner → ⊥) → Global (number_of n low newer g)
        ≡ form_at work n low newer owner (suc g)
    unfolding form_at pick_form
    other_at ne =
        let q : (value_in work (g % value_ring)).owner ≡ owner → ⊥ =
        λ z. ne (ap (λ (w : Value). w.owner) a.cells ∙ z) in
        rw (ne_eqb (value_in work (g % value_ring)).owner owner q)

    at-found : form_at work n low newer owner (suc g) ≡ form_at work n low newer owner
        (found_in work store x hash n low)
    at-found = ap (λ k. form_at work n low newer owner k) (sym is ∙ f.is)

    pub formed-local : v.owner ≡ owner
        → Formed work store x hash n low newer owner (Local v.number)
    unfolding form_in number_in value_form number_at
    formed-local z =
        record {
          is = mine-at z ∙ at-found;
          small = a.small;
          means = λ stored es cap s b.
              let h : Here es cap = here s b in
              let w : key_at es g ≡ owner = sym h.value.owner ∙ z in
              ap (λ i. hit 0 i) (h.value.number ∙ ap (λ k. earlier es k g) w)
              ∙ rw (eq-eqb owner (key_at es g) (sym w)) at h.form;
        }

    pub formed-global : n ≤ numbers → low ≤ n → newer ≤ n - low → (v.owner ≡ owner → ⊥) → (i : ℕ)
        → i ≡ number_of n low newer g → Formed work store x hash n low newer owner (Global i)
    unfolding form_in number_in value_form
    formed-global few some new ne i z =
        record {
          is = ap (λ k. Global k) z ∙ other_at ne ∙ at-found;
          small = omega (arith, number-less n low newer g some new (omega (arith, f.within)));
          means = λ stored es cap s b.
              let h : Here es cap = here s b in
              ap (λ k. hit 1 k) (h.number i z)
              ∙ rw (ne_eqb owner (key_at es g) (λ q. ne (h.value.owner ∙ sym q))) at h.form;
        }
