-- What the parts of the check have found is a shape that the memory holds; and a memory that holds a shape passes each part.
--     found-holds      the shape
--     live-fits, tree-good, groups-good, places-good, all_one      what a memory that holds a shape shows to each part
use Rattle.std.specs.Prelude.{◌≡◌, refl, List, map, ℕ, ◌+◌, ◌-◌, ◌≤◌, ◌<◌, length, get_or}
use Rattle.std.proofs.Common.{ap, sym, ◌∙◌, subst, arith}
use Rattle.std.proofs.Math.Decide.{dec_lt}
use Rattle.std.proofs.lemmas.List.{length-map}
use Rattle.geometry.specs.declared.settings.Settings.{Settings}
use Rattle.geometry.specs.Cells.{root_data}
use Rattle.model.specs.declared.State.{State}
use Rattle.model.specs.Sums.{indicator, sum_over}
use Rattle.model.proofs.Laws.Sums.{by_dec, sum_over-map}
use Rattle.model.specs.Lists.{count}
use Rattle.model.specs.Trees.{Placed, at_place, place_count, group_count, size}
use Rattle.model.specs.Shapes.{Shape, Valid, WellFormed, below}
use Rattle.model.specs.Layout.{World, none, branch_mark, blank, Holds}
use Rattle.model.specs.Memory.{Mem, Chained, Represented}
use Rattle.model.proofs.Laws.Shapes.{below_yes, below-no, below-le, live-and_free, distinct-length}
use Rattle.model.proofs.Laws.Memory.{holds-represented, represented-holds}
use Rattle.model.proofs.Laws.Pattern.{one-chain, one-tree, one_free, length-blank}
use Rattle.memory.specs.Lent.{Held, places_held, groups_held, mem_of, world_of}
use Rattle.tree_check.specs.Regions.{root_region, is_blank}
use Rattle.tree_check.specs.Chains.{ChainGood, ChainFound}
use Rattle.tree_check.specs.Frees.{FreeGood, FreeFound}
use Rattle.tree_check.specs.Trees.{TreeGood, TreeFound}
use Rattle.tree_check.specs.Checks.{CheckReady}
use Rattle.tree_check.proofs.Laws.Trees.{fine-legible}
use Rattle.tree_check.proofs.Laws.Regions.{root-fine, fine-root, all-blank, blanks_are}

module _ {s : State} {rows : Held} {marks : List ℕ} (ready : CheckReady s rows marks) where
  abbrev W : World
  W = world_of s rows marks

  abbrev M : Mem
  M = mem_of rows

  abbrev places : ℕ
  places = places_held rows

  abbrev groups : ℕ
  groups = groups_held rows

  abbrev FoundTree : List ℕ → Type 0
  FoundTree marks₁ = TreeFound (root_region s.settings) rows marks 0 marks₁

  abbrev FoundGroups : List ℕ → List ℕ → Type 0
  FoundGroups marks₁ marks₂ = FreeFound rows marks₁ s.free_group marks₂

  abbrev FoundPlaces : List ℕ → List ℕ → Type 0
  FoundPlaces marks₂ marks₃ = ChainFound is_blank rows marks₂ s.free_place (places - s.live) marks₃

  -- ---- what was found

  module _ (live : s.live ≤ places) {marks₁ marks₂ marks₃ : List ℕ} (t : FoundTree marks₁) (g : FoundGroups marks₁ marks₂) (p : FoundPlaces marks₂ marks₃)
      (ones : (j : ℕ) → j < places + groups → get_or marks₃ j 0 ≡ 1) where
    abbrev X : Shape
    X =
        record {
          settings = s.settings;
          groups = groups;
          places = places;
          tree = t.tree;
          free_groups = g.free;
          free_places = map (λ d. d.place) p.chain;
          changes = s.changes;
        }

    X-valid : Valid X
    X-valid =
        record {
          groups_fit = ready.ready.groups_fit;
          places_fit = ready.ready.places_fit;
          settings_fit = ready.accepted;
          groups_once = λ k. by_dec (dec_lt k groups)
              (λ b.
              omega (
                arith,
                below_yes k groups b,
                t.groups_added.added k b,
                ready.zeros (places + k),
                g.added.added k b,
                p.kept (places + k) (omega arith),
                ones (places + k) (omega arith),
              ))
              (λ b. omega (arith, below-no k groups (omega arith), t.good.groups_once.within k (omega arith), g.good.once.within k (omega arith)));
          places_once = λ k.
              let c = sum_over-map (indicator k) (λ d. d.place) p.chain in
              by_dec (dec_lt k places)
              (λ b. omega (arith, c, below_yes k places b, t.places_added.added k b, ready.zeros k, g.kept k b, p.added.added k b, ones k (omega arith)))
              (λ b. omega (arith, c, below-no k places (omega arith), t.good.places_once.within k (omega arith), p.good.once.within k (omega arith)));
          well_formed = fine-root s.settings t.tree t.good.fine;
        }

    X-represented : Represented W X
    X-represented =
        let r = ready.ready in
        record {
          nodes = omega (arith, r.node_room);
          dots = r.dot_room;
          rects = r.rect_room;
          marks = r.mark_ready.room;
          tree = t.good.stands;
          groups = g.good.listed;
          places = subst (λ (xs : List Placed). Chained M s.free_place xs none) (blanks_are p.chain p.good.passing) p.good.chained;
          settings = refl;
          live = omega (arith, live-and_free X X-valid, length-map p.chain (λ (d : Placed). d.place), p.good.counted);
          changes = refl;
        }

    pub found-holds : (x : Shape) × Holds W x
    found-holds = (X, represented-holds W X X-valid X-represented)

  -- ---- a memory that holds a shape

  module _ (x : Shape) (h : Holds W x) where
    rep : Represented W x
    rep = holds-represented W x h

    same-groups : x.groups ≡ groups
    same-groups = omega (arith, rep.nodes, ready.ready.node_room)

    same-places : x.places ≡ places
    same-places = omega (arith, rep.dots, ready.ready.dot_room)

    groups-once : (k : ℕ) → group_count k x.tree + count k x.free_groups ≡ below k groups
    groups-once k = h.valid.groups_once k ∙ ap (below k) same-groups

    places-once : (k : ℕ) → place_count k x.tree + count k x.free_places ≡ below k places
    places-once k = h.valid.places_once k ∙ ap (below k) same-places

    counts : size x.tree + length x.free_places ≡ places
    counts = live-and_free x h.valid ∙ same-places

    pub live-fits : places < s.live → ⊥
    live-fits b = omega (arith, counts, rep.live)

    pub tree-good : TreeGood (root_region s.settings) rows marks 0 x.tree
    unfolding branch_mark
    tree-good =
        record {
          stands = rep.tree;
          fine = root-fine s.settings x.tree (omega (arith, counts, ready.ready.places_fit))
              (subst (λ (e : Settings). WellFormed e (root_data e) x.tree) (sym rep.settings) h.valid.well_formed);
          places_once = record {
            once = λ j b. omega (arith, ready.zeros j, places-once j, below-le j places);
            within = λ j b. omega (arith, places-once j, below-no j places b);
          };
          groups_once = record {
            once = λ j b. omega (arith, ready.zeros (places + j), groups-once j, below-le j groups);
            within = λ j b. omega (arith, groups-once j, below-no j groups b);
          };
        }

    module _ {marks₁ : List ℕ} (t : FoundTree marks₁) where
      same-tree : t.tree ≡ x.tree
      same-tree =
          let told = fine-legible (root_region s.settings) in
          one-tree M 0 t.tree x.tree (told t.tree t.good.fine) (told x.tree tree-good.fine) t.good.stands rep.tree

      pub groups-good : FreeGood rows marks₁ s.free_group groups x.free_groups
      groups-good =
          record {
            listed = rep.groups;
            few = distinct-length groups x.free_groups
                (λ k. omega (arith, groups-once k, below-le k groups)) (λ k b. omega (arith, groups-once k, below-no k groups b));
            once = record {
              once = λ j b. omega (arith, t.groups_added.added j b, ready.zeros (places + j), ap (group_count j) same-tree, groups-once j, below-le j groups);
              within = λ j b. omega (arith, groups-once j, below-no j groups b);
            };
          }

      module _ {marks₂ : List ℕ} (g : FoundGroups marks₁ marks₂) where
        blanks_count : (j : ℕ) → sum_over (at_place j) (map blank x.free_places) ≡ count j x.free_places
        blanks_count j = sum_over-map (at_place j) blank x.free_places

        pub places-good : ChainGood is_blank rows marks₂ s.free_place (places - s.live) (map blank x.free_places)
        places-good =
            record {
              chained = rep.places;
              counted = omega (arith, length-blank x.free_places, counts, rep.live);
              passing = all-blank x.free_places;
              once = record {
                once = λ j b.
                    omega (
                      arith,
                      blanks_count j,
                      g.kept j b,
                      t.places_added.added j b,
                      ready.zeros j,
                      ap (place_count j) same-tree,
                      places-once j,
                      below-le j places,
                    );
                within = λ j b. omega (arith, blanks_count j, places-once j, below-no j places b);
              };
            }

        in_range_lem : (free : List ℕ) → ((j : ℕ) → groups ≤ j → count j free ≡ 0) → (k : ℕ) → 1 ≤ count k free → k < 16384
        in_range_lem free z k c = by_dec (dec_lt k groups) (λ b. omega (arith, ready.ready.groups_fit)) (λ b. absurd (omega (arith, z k (omega arith))))

        same-free : g.free ≡ x.free_groups
        same-free =
            one_free M s.free_group g.free x.free_groups
            (in_range_lem g.free g.good.once.within) (in_range_lem x.free_groups groups-good.once.within)
            g.good.listed groups-good.listed

        module _ {marks₃ : List ℕ} (p : FoundPlaces marks₂ marks₃) where
          same-chain : p.chain ≡ map blank x.free_places
          same-chain =
              one-chain M s.free_place p.chain (map blank x.free_places)
              (p.good.counted ∙ sym places-good.counted) p.good.chained places-good.chained

          pub all_one : (j : ℕ) → j < places + groups → get_or marks₃ j 0 ≡ 1
          all_one j b =
              by_dec (dec_lt j places)
              (λ c.
              omega (
                arith,
                p.added.added j c,
                ap (sum_over (at_place j)) same-chain,
                blanks_count j,
                g.kept j c,
                t.places_added.added j c,
                ready.zeros j,
                ap (place_count j) same-tree,
                places-once j,
                below_yes j places c,
              ))
              (λ c.
              let k : ℕ = j - places in
              let e : places + k ≡ j = omega arith in
              let in-groups : k < groups = omega arith in
              let one : get_or marks₃ (places + k) 0 ≡ 1 = omega (
                arith,
                p.kept (places + k) (omega arith),
                g.added.added k in-groups,
                ap (count k) same-free,
                t.groups_added.added k in-groups,
                ready.zeros (places + k),
                ap (group_count k) same-tree,
                groups-once k,
                below_yes k groups in-groups,
              ) in
              subst (λ (y : ℕ). get_or marks₃ y 0 ≡ 1) e one)
