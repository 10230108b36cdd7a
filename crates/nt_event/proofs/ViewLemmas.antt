-- What is seen of trees and shapes.
use Rattle.std.proofs.Common.{rules, Vec, Box, Global, ◌≡◌, ℕ, List, map, not, length, nat_eq, get_or, take, ◌<◌, ◌+◌, ◌++◌, zero, suc}
use Rattle.std.proofs.Common.{refl, sym, ap, subst, ◌∙◌, arith, [], ◌∷◌}
use Rattle.std.proofs.lemmas.Bool.{ne_eqb}
use Rattle.nt_types.specs.TreeData.{TreeData, trees_of, items, parts}
use Rattle.nt_types.specs.TreeViews.{tree_view}
use Rattle.nt_types.specs.ShapeData.{ShapeData, kinds_of, parts_of}
use Rattle.nt_types.specs.ShapeData as kinds
use Rattle.nt_types.specs.Views.{shape_view, member_view, members_view}
use Rattle.nt_types.specs.declared.tree.Tree.{Tree, the_lemmas as tree_lemmas}
use Rattle.nt_types.specs.declared.tree.Tree as trees
use Rattle.nt_types.specs.declared.shape.Shape.{Shape, the_lemmas as shape_lemmas}
use Rattle.nt_types.specs.declared.shape.Shape as shapes
use Rattle.nt_types.specs.declared.shape.Shapes.{Shapes}
use Rattle.nt_types.specs.declared.shape.Member.{Member}
use Rattle.nt_types.specs.declared.shape.Members.{Members}
use Rattle.nt_types.proofs.ShapeViews.{member_view-of}
use Rattle.nt_event.specs.Standing.{ReadsValue, kinds_in}
use Rattle.nt_event.proofs.Texts.{are_some}

pub some_views : (ts : List Tree) → are_some (map tree_view ts) ≡ not (nat_eq (length ts) 0)
some_views [] = refl
some_views (t ∷ ts) = sym (ap not (ne_eqb (length (t ∷ ts)) 0 (λ e. omega (arith, e))))

pub view-Items : (v : Vec Tree Global) → tree_view (trees.Items (record { list = v })) ≡ items (trees_of (map tree_view v.items))
view-Items v = search (rules, tree_lemmas)

pub view-Parts : (v : Vec Tree Global) → tree_view (trees.Parts (record { list = v })) ≡ parts (trees_of (map tree_view v.items))
view-Parts v = search (rules, tree_lemmas)

pub view-List : (k : Box Shape Global) → shape_view (shapes.List k) ≡ kinds.list (shape_view k.value)
view-List k = search (rules, shape_lemmas)

pub view-Rec : (ms : Members) → shape_view (shapes.Rec ms) ≡ kinds.fields (parts_of (members_view ms))
view-Rec ms = search (rules, shape_lemmas)

pub view-Tuple : (ks : Shapes) → shape_view (shapes.Tuple ks) ≡ kinds.tuple (kinds_of (map shape_view ks.list.items))
view-Tuple ks = search (rules, shape_lemmas)

pub view-shape_Text : shape_view shapes.Text ≡ kinds.text
view-shape_Text = search (rules, shape_lemmas)

pub next-shapes : (ks : List Shape) (i : ℕ) (k : Shape) → i < length ks → k ≡ get_or ks i k
    → take (i + 1) (map shape_view ks) ≡ take i (map shape_view ks) ++ shape_view k ∷ []
next-shapes [] i k lt is = absurd (omega arith)
next-shapes (j ∷ ks) zero k lt is = ap (λ (s : Shape). shape_view s ∷ []) (sym is)
next-shapes (j ∷ ks) (suc i) k lt is = let e : suc i + 1 ≡ suc (i + 1) = omega arith in ap (λ n. take n (map shape_view (j ∷ ks))) e
    ∙ ap (λ l. shape_view j ∷ l) (next-shapes ks i k (omega arith) is)

pub next-members : (ms : List Member) (i : ℕ) (m : Member) → i < length ms → m ≡ get_or ms i m
    → take (i + 1) (kinds_in (map member_view ms)) ≡ take i (kinds_in (map member_view ms)) ++ shape_view m.of ∷ []
next-members [] i m lt is = absurd (omega arith)
next-members (j ∷ ms) zero m lt is = ap (λ k. k ∷ []) (member_view-of j) ∙ ap (λ (s : Member). shape_view s.of ∷ []) (sym is)
next-members (j ∷ ms) (suc i) m lt is = let e : suc i + 1 ≡ suc (i + 1) = omega arith in
    ap (λ n. take n (kinds_in (map member_view (j ∷ ms)))) e ∙ ap (λ l. (member_view j).of ∷ l) (next-members ms i m (omega arith) is)

pub length-kinds_in : (ms : List Member) → length (kinds_in (map member_view ms)) ≡ length ms
length-kinds_in [] = refl
length-kinds_in (m ∷ ms) = ap suc (length-kinds_in ms)

pub nth-shape : (ks : List Shape) (i : ℕ) (k : Shape) → i < length ks → k ≡ get_or ks i k
    → shape_view k ≡ get_or (map shape_view ks) i (shape_view k)
nth-shape [] i k lt is = absurd (omega arith)
nth-shape (j ∷ ks) zero k lt is = ap shape_view is
nth-shape (j ∷ ks) (suc i) k lt is = nth-shape ks i k (omega arith) is

-- what stands is read as a shape and a tree that are seen so
pub seen-as : (n m : ℕ) (k j : ShapeData) (v w : TreeData) (text : List ℕ) (at end : ℕ) → n ≡ m → k ≡ j → v ≡ w
    → ReadsValue m j w text at end → ReadsValue n k v text at end
seen-as n m k j v w text at end deep shape tree read =
    subst (λ (l : ℕ). ReadsValue l k v text at end) (sym deep)
    (subst (λ (i : ShapeData). ReadsValue m i v text at end) (sym shape)
    (subst (λ (u : TreeData). ReadsValue m j u text at end) (sym tree) read))
