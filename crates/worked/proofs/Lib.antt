mod Buffered
mod Examples
