-- The groups of a footer are read as what stands there.
use Rattle.std.proofs.Common.{◌≡◌, ℕ, zero, suc, ◌+◌, ◌^◌, true, ltb, eqb, List, [], ◌∷◌, ◌++◌, length, refl, sym, ap, subst}
use Rattle.std.proofs.Common.{◌∙◌, arith}
use Rattle.std.specs.Int.{w32, w64, to_le_bytes}
use Rattle.std.proofs.lemmas.Bool.{ltb-true, lt-ltb, eqb-true, eq-eqb}
use Rattle.std.proofs.lemmas.List.{append-nil}
use Rattle.nt_num.specs.Place.{At}
use Rattle.nt_format.specs.Reading.{IsBytes}
use Rattle.nt_format.specs.Locators.{link}
use Rattle.nt_format.specs.Relations.{Agrees, Stands}
use Rattle.nt_format.specs.declared.locator.Link.{Link}
use Rattle.nt_pagelists.specs.declared.group.Group.{Group}
use Rattle.nt_pagelists.specs.ClusterGroups.{minimum_entry_at, entry_span_at, cluster_count_at, group_at, groups_on}
use Rattle.nt_pagelists.specs.ClusterGroups.{groups_at}
use Rattle.nt_pagelists.specs.ReadingBack.{IsGroup, AreGroups}
use Rattle.nt_payloads.specs.Framed.{InRecord, InList, Series, no_item, and_item, Items}
use Rattle.nt_payloads.specs.Footers.{GroupText}
use Rattle.nt_payloads.proofs.Texts.{Both, Done, Ended, reword, reword_open, seq, seq_open, done_open}
use Rattle.nt_payloads.proofs.Tests.{tested, Word32, Word64, word32, word64}
use Rattle.nt_payloads.proofs.Frames.{in_record, in_list}
use Rattle.nt_payloads.proofs.Loops.{Behind, loop_end, loop_more, series_parts, series_none}
use Rattle.nt_payloads.proofs.Links.{LinkText, link_is}

-- what stands in the frame of a group behind so many entries and clusters
record GroupIs (entries clusters place : ℕ) (text : List ℕ) (g : Group) : Type 0 where
  is : GroupText place text g
  behind : IsGroup entries clusters g

abbrev group_made : ℕ → ℕ → ℕ → Link → Group
group_made first span clusters link = record { first = first; span = span; clusters = clusters; link = link }

abbrev FirstWord : ℕ → ℕ → List ℕ → ℕ → Type 0
FirstWord entries place text n = Word64 place text n × (eqb n entries ≡ true)

abbrev SpanWord : ℕ → ℕ → List ℕ → ℕ → Type 0
SpanWord entries place text n = Word64 place text n × (ltb (entries + n) (2 ^ 64) ≡ true)

abbrev CountWord : ℕ → ℕ → List ℕ → ℕ → Type 0
CountWord clusters place text n = Word32 place text n × (ltb (clusters + n) (2 ^ 32) ≡ true)

abbrev GroupSteps : ℕ → ℕ → At → ℕ → List ℕ → Group × At → Type 0
GroupSteps entries clusters after =
    Both (FirstWord entries) λ first. Both (SpanWord entries) λ span. Both (CountWord clusters) λ count. Both LinkText λ link.
    Done (group_made first span count link, after)

group_steps : (entries clusters : ℕ) (here : At) → IsBytes here.left
    → Agrees (group_at entries clusters here) (Stands (InRecord (GroupIs entries clusters) here.place) here)
unfolding group_at minimum_entry_at entry_span_at cluster_count_at
group_steps entries clusters here bytes = in_record _ bytes λ inside after fi. reword_open (to inside after) (from inside after)
    (seq_open _ fi (tested _ _ (word64 inside fi)) λ first m fm. seq_open _ fm
    (tested (λ n. ltb (entries + n) (2 ^ 64)) _ (word64 m fm)) λ span n fn.
    seq_open _ fn (tested (λ n. ltb (clusters + n) (2 ^ 32)) _ (word32 n fn)) λ count o fo. seq_open _ fo
    (link_is here.place o fo) λ link q fq.
    done_open (group_made first span count link, after) fq)
  where
    to : (inside after : At) (text : List ℕ) (read : Group × At) → GroupSteps entries clusters after inside.place text read
        → Ended (GroupIs entries clusters) after inside.place text read
    to inside after text read t =
        let u = t.is_second in
        let v = u.is_second in
        let w = v.is_second in
        let last : w.first ++ w.second ≡ link w.head = ap (λ (x : List ℕ). w.first ++ x) w.is_second.none ∙ append-nil w.first
        ∙ w.is_first.is in
        let parts : text ≡ to_le_bytes w64 t.head ++ (to_le_bytes w64 u.head ++ (to_le_bytes w32 v.head ++ link w.head)) =
        t.parts ∙ ap (λ (x : List ℕ). x ++ t.second) t.is_first.0.is
        ∙ ap (λ (x : List ℕ). to_le_bytes w64 t.head ++ x) (u.parts ∙ ap (λ (x : List ℕ). x ++ u.second) u.is_first.0.is
        ∙ ap (λ (x : List ℕ). to_le_bytes w64 u.head ++ x) (v.parts ∙ ap (λ (x : List ℕ). x ++ v.second) v.is_first.0.is
        ∙ ap (λ (x : List ℕ). to_le_bytes w32 v.head ++ x) (w.parts ∙ last))) in
        let made : GroupIs entries clusters inside.place text (group_made t.head u.head v.head w.head) = record {
          is = record { parts = parts };
          behind = record {
            begins = eqb-true _ _ t.is_first.1;
            low = ltb-true _ _ u.is_first.1;
            few = ltb-true _ _ v.is_first.1;
            leads = w.is_first.fits;
          };
        } in (
          subst (λ (g : Group). GroupIs entries clusters inside.place text g) (sym (ap (λ (p : Group × At). p.0) w.is_second.is)) made,
          ap (λ (p : Group × At). p.1) w.is_second.is,
        )

    from : (inside after : At) (text : List ℕ) (read : Group × At) → Ended (GroupIs entries clusters) after inside.place text read
        → GroupSteps entries clusters after inside.place text read
    from inside after text read t =
        let g = read.0 in
        let b = t.0.behind in
        record {
          head = g.first;
          first = to_le_bytes w64 g.first;
          second = to_le_bytes w64 g.span ++ (to_le_bytes w32 g.clusters ++ link g.link);
          parts = t.0.is.parts;
          is_first = (record { is = refl; fits = omega (arith, b.begins, b.low) }, eq-eqb _ _ b.begins);
          is_second = record {
            head = g.span;
            first = to_le_bytes w64 g.span;
            second = to_le_bytes w32 g.clusters ++ link g.link;
            parts = refl;
            is_first = (record { is = refl; fits = omega (arith, b.low) }, lt-ltb _ _ b.low);
            is_second = record {
              head = g.clusters;
              first = to_le_bytes w32 g.clusters;
              second = link g.link;
              parts = refl;
              is_first = (record { is = refl; fits = omega (arith, b.few) }, lt-ltb _ _ b.few);
              is_second = record {
                head = g.link;
                first = link g.link;
                second = [];
                parts = sym (append-nil (link g.link));
                is_first = record { is = refl; fits = b.leads };
                is_second = record { none = refl; is = ap (λ (a : At). (g, a)) t.1 };
              };
            };
          };
        }

-- the record frame of a group behind so many entries and clusters
record GroupFrame (entries clusters place : ℕ) (text : List ℕ) (g : Group) : Type 0 where
  is : InRecord GroupText place text g
  behind : IsGroup entries clusters g

group_is : (entries clusters : ℕ) (here : At) → IsBytes here.left
    → Agrees (group_at entries clusters here) (Stands (GroupFrame entries clusters here.place) here)
group_is entries clusters here bytes = reword
    (λ text g t. record {
      is = record { known = t.known; more = t.more; frame = t.frame; size = t.size; is = t.is.is };
      behind = t.is.behind;
    })
    (λ text g t. record {
      known = t.is.known;
      more = t.is.more;
      frame = t.is.frame;
      size = t.is.size;
      is = record { is = t.is.is; behind = t.behind };
    })
    (group_steps entries clusters here bytes)

-- groups stand here that go on from so many entries and clusters
abbrev GroupsAre : ℕ → ℕ → ℕ → List ℕ → List Group → Type 0
GroupsAre entries clusters place text gs = Series (InRecord GroupText) place text gs × AreGroups entries clusters gs

groups_on_are : (n entries clusters : ℕ) (before : List Group) (here : At) → IsBytes here.left
    → Agrees (groups_on n entries clusters before here) (Stands (Behind n before (GroupsAre entries clusters) here.place) here)
groups_on_are zero entries clusters before here bytes = loop_end before bytes (no_item, tt) (λ text s. series_none here.place text s.0)
groups_on_are (suc n) entries clusters before here bytes =
    loop_more
    {Item = GroupFrame entries clusters}
    {Others = λ g. GroupsAre (entries + g.span) (clusters + g.clusters)}
    {Such = GroupsAre entries clusters}
    n before
    (λ first others g gs f o. (and_item f.is o.0, (f.behind, o.1)))
    (λ text g gs s.
    let p = series_parts here.place text g gs s.0 in
    record {
      first = p.first;
      others = p.others;
      parts = p.parts;
      is_first = record { is = p.is_first; behind = s.1.0 };
      are_others = (p.are_others, s.1.1);
    })
    (seq _ bytes (group_is entries clusters here bytes) λ g m fm. groups_on_are n (entries + g.span) (clusters + g.clusters)
    (before ++ g ∷ []) m fm)

-- the groups of a file, in their list frame
pub record InGroups (count place : ℕ) (text : List ℕ) (gs : List Group) : Type 0 where
  pub items : Items (InRecord GroupText) count place text gs
  pub behind : AreGroups 0 0 gs

abbrev GroupsSteps : ℕ → At → ℕ → List ℕ → List Group × At → Type 0
GroupsSteps count after = Both (Behind count [] (GroupsAre 0 0)) λ gs. Done (gs, after)

pub groups_are : (here : At) → IsBytes here.left → Agrees (groups_at here) (Stands (InList InGroups here.place) here)
unfolding groups_at
groups_are here bytes = in_list _ bytes λ count inside after fi. reword_open (to count inside after) (from count inside after)
    (seq_open _ fi (groups_on_are count 0 0 [] inside fi) λ gs m fm. done_open (gs, after) fm)
  where
    to : (count : ℕ) (inside after : At) (text : List ℕ) (read : List Group × At) → GroupsSteps count after inside.place text read
        → Ended (InGroups count) after inside.place text read
    to count inside after text read t =
        let gs = t.head in
        let same : gs ≡ t.is_first.more = t.is_first.is in
        let parts : text ≡ t.first = t.parts ∙ ap (λ (x : List ℕ). t.first ++ x) t.is_second.none ∙ append-nil t.first in
        let made : InGroups count inside.place text gs = record {
          items = record {
            len = ap (λ (l : List Group). length l) same ∙ t.is_first.len;
            series = subst (λ (x : List ℕ). Series (InRecord GroupText) inside.place x gs) (sym parts)
                (subst (λ (l : List Group). Series (InRecord GroupText) inside.place t.first l) (sym same) t.is_first.such.0);
          };
          behind = subst (λ (l : List Group). AreGroups 0 0 l) (sym same) t.is_first.such.1;
        } in (
          subst (λ (l : List Group). InGroups count inside.place text l) (sym (ap (λ (p : List Group × At). p.0) t.is_second.is)) made,
          ap (λ (p : List Group × At). p.1) t.is_second.is,
        )

    from : (count : ℕ) (inside after : At) (text : List ℕ) (read : List Group × At) → Ended (InGroups count) after inside.place text read
        → GroupsSteps count after inside.place text read
    from count inside after text read t = record {
      head = read.0;
      first = text;
      second = [];
      parts = sym (append-nil text);
      is_first = record { more = read.0; is = refl; len = t.0.items.len; such = (t.0.items.series, t.0.behind) };
      is_second = record { none = refl; is = ap (λ (a : At). (read.0, a)) t.1 };
    }
