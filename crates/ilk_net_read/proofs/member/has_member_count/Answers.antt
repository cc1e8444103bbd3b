use Rattle.serde_json.proofs.Views.{members_len-members_view}
use Rattle.ilk_net_read.proofs.member.has_member_count.Goals as goal

pub returns-in-Some : goal.returns-in-Some
returns-in-Some c = rw (← c.in-Some.ensures, members_len-members_view, c.len.ensures.len)
