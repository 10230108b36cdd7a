-- The link of a group to its page list is read as what stands there.
use Rattle.std.proofs.Common.{◌≡◌, ℕ, ◌^◌, false, leb, List, [], ◌++◌, refl, sym, ap, subst}
use Rattle.std.proofs.Common.{◌∙◌, arith}
use Rattle.std.specs.Int.{w32, w64, to_le_bytes}
use Rattle.std.proofs.lemmas.Bool.{lt-leb, leb-false}
use Rattle.std.proofs.lemmas.List.{append-nil}
use Rattle.nt_num.specs.Place.{At}
use Rattle.nt_format.specs.Reading.{IsBytes}
use Rattle.nt_format.specs.Locators.{link, IsLink}
use Rattle.nt_format.specs.Grammars.{Spelled}
use Rattle.nt_format.specs.Relations.{Agrees, Stands}
use Rattle.nt_format.specs.declared.locator.Link.{Link}
use Rattle.nt_pagelists.specs.ClusterGroups.{group_link_at}
use Rattle.nt_payloads.proofs.Texts.{Both, Done, reword, seq, done}
use Rattle.nt_payloads.proofs.Tests.{choose_not, Word32, Word64, word32, word64}

abbrev link_made : ℕ → ℕ → ℕ → Link
link_made len size at = record { length = len; at = record { size = size; place = at } }

abbrev PlaceWord : ℕ → ℕ → List ℕ → ℕ → Type 0
PlaceWord size place text n = (leb (2 ^ 31) size ≡ false) × Word64 place text n

abbrev LinkSteps : ℕ → List ℕ → Link → Type 0
LinkSteps = Both Word64 λ len. Both Word32 λ size. Both (PlaceWord size) λ at. Done (link_made len size at)

link_steps : (frame : ℕ) (here : At) → IsBytes here.left → Agrees (group_link_at frame here) (Stands (LinkSteps here.place) here)
unfolding group_link_at
link_steps frame here bytes =
    seq _ bytes (word64 here bytes) λ len m fm. seq _ fm (word32 m fm) λ size n fn.
    seq _ fn (choose_not (leb (2 ^ 31) size) _ (word64 n fn)) λ at o fo. done (link_made len size at) fo

-- an envelope link
abbrev pub LinkText : ℕ → List ℕ → Link → Type 0
LinkText place = Spelled link IsLink

pub link_is : (frame : ℕ) (here : At) → IsBytes here.left → Agrees (group_link_at frame here) (Stands (LinkText here.place) here)
link_is frame here bytes = reword to from (link_steps frame here bytes)
  where
    to : (text : List ℕ) (l : Link) → LinkSteps here.place text l → LinkText here.place text l
    to text l t =
        let u = t.is_second in
        let v = u.is_second in
        let third : v.first ++ v.second ≡ to_le_bytes w64 v.head = ap (λ (x : List ℕ). v.first ++ x) v.is_second.none ∙ append-nil v.first
        ∙ v.is_first.1.is in
        let whole : text ≡ link (link_made t.head u.head v.head) =
        t.parts ∙ ap (λ (x : List ℕ). x ++ t.second) t.is_first.is
        ∙ ap (λ (x : List ℕ). to_le_bytes w64 t.head ++ x)
        (u.parts ∙ ap (λ (x : List ℕ). x ++ u.second) u.is_first.is
        ∙ ap (λ (x : List ℕ). to_le_bytes w32 u.head ++ x) (v.parts ∙ third)) in
        subst (λ (k : Link). LinkText here.place text k) (sym v.is_second.is)
        (record {
          is = whole;
          fits = record { length = t.is_first.fits; at = record { size = leb-false _ _ v.is_first.0; place = v.is_first.1.fits } };
        })

    from : (text : List ℕ) (l : Link) → LinkText here.place text l → LinkSteps here.place text l
    from text l t = record {
      head = l.length;
      first = to_le_bytes w64 l.length;
      second = to_le_bytes w32 l.at.size ++ to_le_bytes w64 l.at.place;
      parts = t.is;
      is_first = record { is = refl; fits = t.fits.length };
      is_second = record {
        head = l.at.size;
        first = to_le_bytes w32 l.at.size;
        second = to_le_bytes w64 l.at.place;
        parts = refl;
        is_first = record { is = refl; fits = omega (arith, t.fits.at.size) };
        is_second = record {
          head = l.at.place;
          first = to_le_bytes w64 l.at.place;
          second = [];
          parts = sym (append-nil (to_le_bytes w64 l.at.place));
          is_first = (lt-leb _ _ t.fits.at.size, record { is = refl; fits = t.fits.at.place });
          is_second = record { none = refl; is = refl };
        };
      };
    }
