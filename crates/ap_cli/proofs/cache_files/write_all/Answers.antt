use Rattle.std.proofs.Common.{List, ℕ, arith, subst}
use Rattle.std.specs.Prelude.{Some}
use Rattle.ap_tree.specs.Changes.{TellsAs, Puts}
use Rattle.ap_cli.proofs.Between.{has_after, has_first, between_more, all_but_one}
use Rattle.ap_cli.proofs.Laying.{distinct_after, laid_after}
use Rattle.ap_cli.proofs.cache_files.write_all.Goals as goal

pub loop-rest-preserved : goal.loop-rest-preserved
loop-rest-preserved g c =
    let so_far = c.loop-rest.invariant in
    let put = subst (λ (p : List ℕ). TellsAs (g.C.CacheDir.files c.loop-rest.cache) (g.C.CacheDir.files c.write.new.self) (λ old new. Puts old new p (Some c.file-item.result.1)))
    c.path.ensures
    (subst (λ (b : List ℕ). TellsAs (g.C.CacheDir.files c.loop-rest.cache) (g.C.CacheDir.files c.write.new.self) (λ old new. Puts old new c.path.result.now (Some b)))
    c.bytes.ensures c.in-Ok.ensures.written) in
    record {
      distinct = distinct_after c.loop-rest.rest.now so_far.distinct;
      left = λ final laid. so_far.left final (laid_after _ _ final c.loop-rest.rest.now c.file-item.result c.in-len1-up.len_at_least c.file-item.is so_far.distinct put laid);
      inside = has_after c.loop-rest.rest.now c.args.files.now so_far.distinct so_far.inside;
      so_far = between_more c.args.files.now (g.C.CacheDir.files c.args.cache.now) (g.C.CacheDir.files c.loop-rest.cache) (g.C.CacheDir.files c.write.new.self) c.file-item.result.0 c.file-item.result.1
          (has_first c.loop-rest.rest.now c.args.files.now c.file-item.result c.in-len1-up.len_at_least c.file-item.is so_far.inside) so_far.so_far put;
      later = omega (arith, so_far.later, c.in-Ok.ensures.cause.later);
    }

pub returns-in-Err-Failed-clause-partly : goal.returns-in-Err-Failed-clause-partly
returns-in-Err-Failed-clause-partly g c = λ _.
    all_but_one c.args.files.now (g.C.CacheDir.files c.args.cache.now) (g.C.CacheDir.files c.loop-rest.cache) (g.C.CacheDir.files c.write.new.self) c.path.result.now
    c.loop-rest.invariant.so_far c.write.ensures.others
