pub mod ReaddressedLemmas
pub mod RtpLemmas
