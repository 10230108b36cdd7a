-- Shapes and members, one after the other.
use Rattle.std.proofs.Common.{◌≡◌, ◌∙◌, ap, sym, refl, ℕ, ◌+◌, ◌<◌, ◌≤◌, List, [], ◌∷◌, ◌++◌, map, take, length, get_or}
use Rattle.std.proofs.lemmas.List.{map-append, map_more, take_all}
use Rattle.nt_types.specs.ShapeData.{ShapeData, ShapesData, MemberData, MembersData, kinds_of, parts_of, kinds_list, parts_list, kind, part}
use Rattle.nt_types.specs.Views.{shape_view, member_view}
use Rattle.nt_types.specs.declared.shape.Shape.{Shape}
use Rattle.nt_types.specs.declared.shape.Member.{Member}
use Rattle.nt_writable.specs.Written.{as_written, kinds_as_written, parts_as_written, kinds_of_members}

-- one more of what each of a list gives
pub grown : {A B C : Type 0} (view : A → B) (f : C → B) (xs : List C) (i : ℕ) (x : C) (done new : List A) (y : A)
    → map view done ≡ map f (take i xs) → i < length xs → x ≡ get_or xs i x → view y ≡ f x → new ≡ done ++ y ∷ []
    → map view new ≡ map f (take (i + 1) xs)
grown view f xs i x done new y so-far less at is pushed =
    ap (map view) pushed ∙ map-append view done (y ∷ []) ∙ ap (λ l. l ++ view y ∷ []) so-far
    ∙ ap (λ b. map f (take i xs) ++ b ∷ []) is ∙ ap (λ z. map f (take i xs) ++ f z ∷ []) at ∙ sym (map_more f xs i x less)

-- the shape, or the member, that one is written with
abbrev pub written_shape : Shape → ShapeData
written_shape s = as_written (shape_view s)

abbrev pub written_member : Member → MemberData
written_member m = record { name = (member_view m).name; of = as_written (member_view m).of }

abbrev pub shape_of_member : Member → ShapeData
shape_of_member m = as_written (member_view m).of

kinds-written : (ss : List Shape) → kinds_of (map written_shape ss) ≡ kinds_as_written (kinds_of (map shape_view ss))
kinds-written [] = refl
kinds-written (s ∷ ss) = ap (λ (l : ShapesData). kind (written_shape s) l) (kinds-written ss)

parts-written : (ms : List Member) → parts_of (map written_member ms) ≡ parts_as_written (parts_of (map member_view ms))
parts-written [] = refl
parts-written (m ∷ ms) = ap (λ (l : MembersData). part (member_view m).name (as_written (member_view m).of) l) (parts-written ms)

members-written : (ms : List Member) → kinds_of (map shape_of_member ms) ≡ kinds_of_members (parts_of (map member_view ms))
members-written [] = refl
members-written (m ∷ ms) = ap (λ (l : ShapesData). kind (shape_of_member m) l) (members-written ms)

pub all-shapes : (ss new : List Shape) (i : ℕ) → length ss ≤ i → map shape_view new ≡ map written_shape (take i ss)
    → kinds_of (map shape_view new) ≡ kinds_as_written (kinds_of (map shape_view ss))
all-shapes ss new i past is =
    ap kinds_of is ∙ ap (λ (l : List Shape). kinds_of (map written_shape l)) (take_all i ss past) ∙ kinds-written ss

pub all-members : (ms new : List Member) (i : ℕ) → length ms ≤ i → map member_view new ≡ map written_member (take i ms)
    → parts_of (map member_view new) ≡ parts_as_written (parts_of (map member_view ms))
all-members ms new i past is =
    ap parts_of is ∙ ap (λ (l : List Member). parts_of (map written_member l)) (take_all i ms past) ∙ parts-written ms

pub all-kinds : (ms : List Member) (new : List Shape) (i : ℕ) → length ms ≤ i → map shape_view new ≡ map shape_of_member (take i ms)
    → kinds_of (map shape_view new) ≡ kinds_of_members (parts_of (map member_view ms))
all-kinds ms new i past is =
    ap kinds_of is ∙ ap (λ (l : List Member). kinds_of (map shape_of_member l)) (take_all i ms past) ∙ members-written ms

pub list-of_kinds : (ks : List ShapeData) → kinds_list (kinds_of ks) ≡ ks
list-of_kinds [] = refl
list-of_kinds (k ∷ ks) = ap (λ (l : List ShapeData). k ∷ l) (list-of_kinds ks)

pub list-of_parts : (ps : List MemberData) → parts_list (parts_of ps) ≡ ps
list-of_parts [] = refl
list-of_parts (p ∷ ps) = ap (λ (l : List MemberData). p ∷ l) (list-of_parts ps)
