-- Events by their kinds and strings.
use mathlib.Core.Path.{◌≡◌, refl, sym}
use mathlib.Core.Bool.{Bool, ◌&&◌, and-true, and_assoc}
use mathlib.Core.List.{[], ◌∷◌}
use Rattle.spec_exi.specs.Event.{Event, start_document, end_document, end_element, start_element}
use Rattle.spec_exi.specs.Event.{attribute, characters, comment, instruction, kind_of, map_event}
use Rattle.spec_exi.specs.Lists.{every}

-- ---- strings

module _ {A : Type 0} (f : A → Bool) where
  pub every_one : (x : A) → f x ≡ every f (x ∷ [])
  unfolding every
  every_one x = sym (and-true (f x))

  pub every_two : (x y : A) → f x && f y ≡ every f (x ∷ y ∷ [])
  unfolding every
  every_two x y = rw (and-true (f y))

  pub every-three : (x y z : A) → f x && f y && f z ≡ every f (x ∷ y ∷ z ∷ [])
  unfolding every
  every-three x y z = rw (and-true (f z)) (and_assoc (f x) (f y) (f z))

-- ---- kinds

-- The kind of an event does not rest on its strings.
pub same_kind : {S R : Type 0} (f : S → R) (e : Event S) → kind_of (map_event f e) ≡ kind_of e
unfolding kind_of map_event
same_kind f start_document = refl
same_kind f end_document = refl
same_kind f end_element = refl
same_kind f (start_element q) = refl
same_kind f (attribute q v) = refl
same_kind f (characters v) = refl
same_kind f (comment x) = refl
same_kind f (instruction x y) = refl
