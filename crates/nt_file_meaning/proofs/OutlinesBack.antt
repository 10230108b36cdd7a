-- A file is read as the outline that it has, and no other.
use Rattle.std.proofs.Common.{◌≡◌, ℕ, List, [], ◌∷◌, ◌++◌, length, Ok, refl, sym, ap, subst, ◌∙◌, arith}
use Rattle.nt_format.specs.Reading.{standing, IsBytes}
use Rattle.nt_format.specs.Relations.{Agrees, With, Is}
use Rattle.nt_format.proofs.Relations.{bind, exactly, in_words}
use Rattle.nt_container.specs.declared.anchor.Anchor.{Anchor}
use Rattle.nt_container.specs.Embeds.{Embeds}
use Rattle.nt_container.proofs.Embedded.{embedded}
use Rattle.nt_grammar.specs.Table.{Table}
use Rattle.nt_pagelists.specs.declared.group.Group.{Group}
use Rattle.nt_pagelists.specs.declared.column.KnownColumn.{KnownColumn}
use Rattle.nt_pagelists.specs.declared.cluster.ClusterList.{ClusterList}
use Rattle.nt_pagelists.specs.PageLists.{ProgressCounts, page_list_at}
use Rattle.nt_pagelists.specs.Footers.{footer_at}
use Rattle.nt_file_meaning.specs.Envelopes.{IsEnvelope, header_kind, footer_kind}
use Rattle.nt_pagelists.specs.Objects.{page_list_kind}
use Rattle.nt_file_meaning.specs.Headers.{header_payload_at}
use Rattle.nt_file_meaning.specs.Outlines.{Outline, header_block, footer_block, list_block, known_columns, no_progress, clusters_of_block}
use Rattle.nt_file_meaning.specs.Outlines.{group_clusters, groups_clusters, described_of, outline_of}
use Rattle.nt_file_meaning.specs.Describes.{ListsGroup, ListsGroups, no_more, and_more, HasOutline}
use Rattle.nt_file_meaning.proofs.EnvelopesBack.{envelope_is, inside}

GroupSteps : List ℕ → ℕ → List KnownColumn → Group → ProgressCounts → List ClusterList × ProgressCounts → Type 0
GroupSteps file sum columns g p =
    With (IsEnvelope file page_list_kind (list_block g.link)) λ list.
    With (λ (read : List ClusterList × ProgressCounts). page_list_at sum g columns p (standing 0 list.payload) ≡ Ok read) λ read.
    Is (clusters_of_block (list_block g.link) read.0, read.1)

group_steps : (file : List ℕ) (sum : ℕ) (columns : List KnownColumn) (g : Group) (p : ProgressCounts) → IsBytes file
    → Agrees (group_clusters file sum columns g p) (GroupSteps file sum columns g p)
unfolding group_clusters GroupSteps
group_steps file sum columns g p fits =
    bind _ (envelope_is file page_list_kind (list_block g.link) (omega arith) fits) λ list l. bind _ (inside (list_block g.link) _)
    λ read r. exactly _

GroupIs : List ℕ → ℕ → List KnownColumn → Group → ProgressCounts → List ClusterList × ProgressCounts → Type 0
GroupIs file sum columns g p read = ListsGroup file sum columns g p read.0 read.1

group : (file : List ℕ) (sum : ℕ) (columns : List KnownColumn) (g : Group) (p : ProgressCounts) → IsBytes file
    → Agrees (group_clusters file sum columns g p) (GroupIs file sum columns g p)
unfolding GroupSteps GroupIs
group file sum columns g p fits = in_words
    (λ read w. record {
      list = w.middle;
      inside = w.second.middle.0;
      there = w.first;
      lists = w.second.first ∙ ap (λ (q : ProgressCounts). Ok (w.second.middle.0, q))
          (sym (ap (λ (r : List ClusterList × ProgressCounts). r.1) w.second.second));
      are = ap (λ (r : List ClusterList × ProgressCounts). r.0) w.second.second;
    })
    (λ read l. record {
      middle = l.list;
      first = l.there;
      second = record {
        middle = (l.inside, read.1);
        first = l.lists;
        second = ap (λ (ks : List ClusterList). (ks, read.1)) l.are;
      };
    })
    (group_steps file sum columns g p fits)

groups : (file : List ℕ) (sum : ℕ) (columns : List KnownColumn) (gs : List Group) (p : ProgressCounts) → IsBytes file
    → Agrees (groups_clusters file sum columns gs p) (ListsGroups file sum columns gs p)
unfolding GroupIs
groups file sum columns [] p fits = in_words
    (λ ks is. subst (λ (l : List ClusterList). ListsGroups file sum columns [] p l) (sym is) no_more)
    (λ ks l. none_listed ks l)
    (exactly [])
  where
    none_listed : (ks : List ClusterList) → ListsGroups file sum columns [] p ks → ks ≡ []
    none_listed ks no_more = refl
groups file sum columns (g ∷ gs) p fits = in_words
    (λ ks w. subst (λ (l : List ClusterList). ListsGroups file sum columns (g ∷ gs) p l) (sym w.second.second)
    (and_more w.first w.second.first))
    (λ ks l. some_listed ks l)
    (bind _ (group file sum columns g p fits) λ first f. bind _ (groups file sum columns gs first.1 fits) λ others o.
    exactly (first.0 ++ others))
  where
    some_listed : (ks : List ClusterList) → ListsGroups file sum columns (g ∷ gs) p ks
        → With (GroupIs file sum columns g p) (λ first. With (ListsGroups file sum columns gs first.1)
        (λ others. Is (first.0 ++ others))) ks
    some_listed ks (and_more {q = q} {ks = one} {others = others} first more) =
        record { middle = (one, q); first = first; second = record { middle = others; first = more; second = refl } }

DescribedSteps : List ℕ → Anchor → Table × List Group × ℕ → Type 0
DescribedSteps file a =
    With (IsEnvelope file header_kind (header_block a)) λ header.
    With (λ (t : Table). header_payload_at (standing 0 header.payload) ≡ Ok t) λ first.
    With (IsEnvelope file footer_kind (footer_block a)) λ footer.
    With (λ (w : Table × List Group). footer_at header.sum first (standing 0 footer.payload) ≡ Ok w) λ whole.
    Is (whole.0, whole.1, header.sum)

described : (file : List ℕ) (a : Anchor) → IsBytes file → Agrees (described_of file a) (DescribedSteps file a)
unfolding described_of DescribedSteps
described file a fits =
    bind _ (envelope_is file header_kind (header_block a) (omega arith) fits) λ header h. bind _ (inside (header_block a) _) λ first f.
    bind _ (envelope_is file footer_kind (footer_block a) (omega arith) fits) λ footer g. bind _ (inside (footer_block a) _)
    λ whole w. exactly _

Steps : List ℕ → Outline → Type 0
Steps file =
    With (Embeds file) λ a. With (DescribedSteps file a) λ said.
    With (ListsGroups file said.2 (known_columns said.0) said.1 (no_progress (length said.0.columns))) λ clusters.
    Is (record { table = said.0; clusters = clusters })

steps : (file : List ℕ) → IsBytes file → Agrees (outline_of file) (Steps file)
unfolding outline_of Steps
steps file fits =
    bind _ (embedded file fits) λ a e. bind _ (described file a fits) λ said s.
    bind _ (groups file said.2 (known_columns said.0) said.1 (no_progress (length said.0.columns)) fits) λ clusters l. exactly _

pub outlined : (file : List ℕ) → IsBytes file → Agrees (outline_of file) (HasOutline file)
unfolding Steps DescribedSteps
outlined file fits = in_words
    (λ o w. subst (HasOutline file) (sym w.second.second.second) (found file w.middle w.second.middle w.second.second.middle w.first
    w.second.first w.second.second.first))
    (λ o h. record {
      middle = h.anchor;
      first = h.embeds;
      second = record {
        middle = (o.table, h.groups, h.header.sum);
        first = record {
          middle = h.header;
          first = h.header_there;
          second = record {
            middle = h.first;
            first = h.describes;
            second = record {
              middle = h.footer;
              first = h.footer_there;
              second = record { middle = (o.table, h.groups); first = h.extends; second = refl };
            };
          };
        };
        second = record { middle = o.clusters; first = h.lists; second = refl };
      };
    })
    (steps file fits)
  where
    found : (file : List ℕ) (a : Anchor) (said : Table × List Group × ℕ) (clusters : List ClusterList) → Embeds file a
        → DescribedSteps file a said
        → ListsGroups file said.2 (known_columns said.0) said.1 (no_progress (length said.0.columns)) clusters
        → HasOutline file (record { table = said.0; clusters = clusters })
    found file a said clusters embeds d lists =
        let header = d.middle in
        let rest = d.second.second in
        let is : rest.second.middle.0 ≡ said.0 = sym (ap (λ (t : Table × List Group × ℕ). t.0) rest.second.second) in
        let gs : rest.second.middle.1 ≡ said.1 = sym (ap (λ (t : Table × List Group × ℕ). t.1) rest.second.second) in
        let sum : header.sum ≡ said.2 = sym (ap (λ (t : Table × List Group × ℕ). t.2) rest.second.second) in
        record {
          anchor = a;
          header = header;
          footer = rest.middle;
          first = d.second.middle;
          groups = said.1;
          embeds = embeds;
          header_there = d.first;
          describes = d.second.first;
          footer_there = rest.first;
          extends = rest.second.first ∙ ap (λ (t : Table). Ok (t, rest.second.middle.1)) is ∙ ap (λ (l : List Group). Ok (said.0, l)) gs;
          lists = subst (λ (n : ℕ). ListsGroups file n (known_columns said.0) said.1 (no_progress (length said.0.columns)) clusters)
              (sym sum) lists;
        }
