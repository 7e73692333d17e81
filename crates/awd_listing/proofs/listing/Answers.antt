use Rattle.std.proofs.Common.{◌≡◌, ◌≤◌, [], string_bytes, length, ap, rules, ◌∙◌, arith}
use Rattle.awd_fault.specs.Faults.{report}
use Rattle.awd_session.specs.View.{view}
use Rattle.awd_listing.proofs.Lines.{listing_opened, listing_refused}
use Rattle.awd_listing.proofs.listing.Goals as goal
use Rattle.awd_listing.proofs.listing.Goals.{in-Ok+in_ok-add_opened_line-in-Ok+in_ok-add_lines-in-Ok, in-Err+in_ok-add_fault_line-in-Err}

pub returns : goal.returns
returns c =
    let b = c.args.input.now in
    let s = view c.new-session.result in
    let fits : length b ≤ 65536 = omega arith in
    let none : string_bytes c.new-text.result ≡ [] = search rules in
    elim c.match-open.branch [
      | in-Ok+in_ok-add_opened_line-in-Ok+in_ok-add_lines-in-Ok w ↦
          ap string_bytes w.text-is
          ∙ listing_opened b fits s (search rules) w.in-Ok.header (view c.open.new.self) w.length.result (string_bytes c.new-text.result) (string_bytes w.add_opened_line.new.text) (string_bytes w.add_lines.new.text)
          w.in-Ok.ensures.answer w.in-Ok.ensures.state (search rules) none w.in_ok-add_opened_line-in-Ok.ensures w.in_ok-add_lines-in-Ok.ensures
      | in-Err+in_ok-add_fault_line-in-Err w ↦
          ap string_bytes w.text-is
          ∙ listing_refused b fits s (search rules) (report w.in-Err.fault) (string_bytes c.new-text.result) (string_bytes w.add_fault_line.new.text) w.in-Err.ensures.answer none w.in_ok-add_fault_line-in-Err.ensures
    ]
