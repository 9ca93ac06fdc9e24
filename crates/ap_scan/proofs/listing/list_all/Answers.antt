use Rattle.std.proofs.Common.{rules}
use Rattle.std.specs.List.{flat_map}
use Rattle.ap_tree.specs.Files.{names_below}
use Rattle.ap_config.specs.declared.config.Folder.{Folder}
use Rattle.ap_scan.specs.Winners.{Files}
use Rattle.ap_scan.specs.Candidates.{candidates_in, odd_in, candidates_of, odds_of}
use Rattle.ap_scan.proofs.Members.{told-step, told-end}
use Rattle.ap_scan.proofs.listing.list_all.Goals as goal

pub loop-rest-preserved : goal.loop-rest-preserved
loop-rest-preserved g c = record {
  candidates = told-step (λ (files : Files). candidates_of files c.args.folders.now) (λ (folder : Folder) (files : Files). flat_map (candidates_in folder) (names_below folder.path files))
      (g.T.Tree.files c.args.tree.now) (g.T.Tree.files c.loop-rest.tree) c.loop-rest.rest.now c.folder-item.result
      c.loop-rest.listing.candidates.items c.list_folder.new.listing.candidates.items c.loop-rest.invariant.same c.in-len1-up.len_at_least c.folder-item.is
      c.loop-rest.invariant.candidates c.in-Ok.ensures.candidates;
  odd = told-step (λ (files : Files). odds_of files c.args.folders.now) (λ (folder : Folder) (files : Files). flat_map (odd_in folder) (names_below folder.path files))
      (g.T.Tree.files c.args.tree.now) (g.T.Tree.files c.loop-rest.tree) c.loop-rest.rest.now c.folder-item.result
      c.loop-rest.listing.odd.items c.list_folder.new.listing.odd.items c.loop-rest.invariant.same c.in-len1-up.len_at_least c.folder-item.is
      c.loop-rest.invariant.odd c.in-Ok.ensures.odd;
  folded = c.in-Ok.ensures.folded c.loop-rest.invariant.folded;
  same = search rules;
  later = search rules;
}

pub returns-clause-candidates : goal.returns-clause-candidates
returns-clause-candidates g c =
    told-end (λ (files : Files). candidates_of files c.args.folders.now) (λ (folder : Folder) (files : Files). flat_map (candidates_in folder) (names_below folder.path files))
    (g.T.Tree.files c.args.tree.now) c.loop-rest.rest.now c.loop-rest.listing.candidates.items c.in_default.len_below c.loop-rest.invariant.candidates

pub returns-clause-odd : goal.returns-clause-odd
returns-clause-odd g c =
    told-end (λ (files : Files). odds_of files c.args.folders.now) (λ (folder : Folder) (files : Files). flat_map (odd_in folder) (names_below folder.path files))
    (g.T.Tree.files c.args.tree.now) c.loop-rest.rest.now c.loop-rest.listing.odd.items c.in_default.len_below c.loop-rest.invariant.odd
