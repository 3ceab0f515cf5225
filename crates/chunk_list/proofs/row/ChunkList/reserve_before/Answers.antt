use Rattle.chunk_list.proofs.Common.{◌≡◌, ◌-◌, List, arith, length, drop_at, take_at, vec_len, ChunkValue}
use Rattle.chunk_list.proofs.Rows as rows
use Rattle.chunk_list.proofs.row.ChunkList.reserve_before.Goals as goal

pub returns-clause-items : goal.returns-clause-items
returns-clause-items c =
    let xs : List ChunkValue = c.self.inside.chunks.items in
    let es : List ChunkValue = c.in_ok-empty.empty.items in
    let made = c.in_ok-empty.ensures in
    let all = c.in_ok-append.ensures.len in
    let own : length xs ≡ vec_len c.append.new.self - c.max-added.result = omega arith in
    let k : c.max-added.result ≡ length es = omega arith in
    rw (← c.self.view_is, c.rotate_right.ensures.items, c.in_ok-append.ensures.items, drop_at xs es (vec_len c.append.new.self - c.max-added.result) own, take_at xs es (vec_len c.append.new.self - c.max-added.result) own)
    (rows.drop_behind es xs c.self.inside.before c.max-added.result k)
